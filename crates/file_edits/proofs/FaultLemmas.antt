-- Faults of edits, and edits without faults.
use Rattle.std.proofs.Common.{◌≡◌, ◌≢◌, ℕ, zero, suc, ◌+◌, ◌<◌, ◌≤◌, Bool, true, false, not, cond, ◌||◌, List, [], ◌∷◌, ◌++◌, length, get_or, take, drop, map, Option, Some, None, refl, sym, ap, subst, ◌∙◌, ◌⊎◌, inl, inr, ⊎_elim, arith}
use Rattle.std.specs.Prelude.{◌==◌, nat_lt, option_map, position, Contains}
use Rattle.std.specs.List.{slice_get, prefix_len, position_or_len, list_any, filter, AllByRecursion}
use Rattle.std.proofs.lemmas.Bool.{cond-true, and_cases, or_parts, or_from, cases_Bool, ltb-false, eqb-true, both_ways, eq-eqb}
use Rattle.std.proofs.lemmas.Bool.Decides.{nat_tests}
use Rattle.std.proofs.lemmas.List.{length-map, length-take-le, drop_more, take_more, map-append}
use Rattle.std.proofs.lemmas.List.Elements.{All-filter, All-from_recursion, All-contains}
use Rattle.std.proofs.lemmas.Option.{none-some, slice_get-map, slice_get_read}
use Rattle.text_edits.specs.Span.{PlainSpan}
use Rattle.text_edits.specs.declared.files.SourceFile.{SourceFile}
use Rattle.text_edits.specs.Files.{PlainFile, plain_file}
use Rattle.file_edits.specs.Edits.{PlainEdit, edits_of}
use Rattle.file_edits.specs.declared.edit.Edit.{Edit}
use Rattle.file_edits.specs.Faults.{Fault, overlap, ends_past, is_past_end, or_past_end, fault_of, share_byte, is_inside, spans_overlap, edits_overlap, or_overlap, overlap_behind, overlap_of}
use Rattle.file_edits.specs.Places.{AreApart, AreWithin, plain_edit, edits_in}

-- positions
prefix_len-map : {X Y : Type 0} (p : Y → Bool) (f : X → Y) (xs : List X) → prefix_len p (map f xs) ≡ prefix_len (λ x. p (f x)) xs
prefix_len-map p f [] = refl
prefix_len-map p f (x ∷ xs) = ap (λ n. cond (p (f x)) (1 + n) 0) (prefix_len-map p f xs)

pub position-map : {X Y : Type 0} (p : Y → Bool) (f : X → Y) (xs : List X) → position p (map f xs) ≡ position (λ x. p (f x)) xs
position-map p f xs =
    let n = position_or_len p (map f xs) in
    ap (λ size. cond (nat_lt n size) (Some n) None) (length-map xs f)
    ∙ ap (λ m. cond (nat_lt m (length xs)) (Some m) None) (prefix_len-map (λ x. not (p x)) f xs)

none-before : {X : Type 0} (p : X → Bool) (xs : List X) → length xs ≤ prefix_len (λ x. not (p x)) xs → list_any p xs ≡ false
none-before {X} p [] h = refl
none-before {X} p (x ∷ xs) h = by (p x) h (none-before p xs) where
  by : (t : Bool) → suc (length xs) ≤ cond (not t) (1 + prefix_len (λ y. not (p y)) xs) 0 → (length xs ≤ prefix_len (λ y. not (p y)) xs → list_any p xs ≡ false) → (t || list_any p xs) ≡ false
  by true l others = absurd (omega (arith, l))
  by false l others = others (omega (arith, l))

pub position-none : {X : Type 0} (p : X → Bool) (xs : List X) → position p xs ≡ None → list_any p xs ≡ false
position-none p xs h =
    let n = position_or_len p xs in
    none-before p xs (⊎_elim (λ e. absurd (none-some n (sym h ∙ cond-true (nat_lt n (length xs)) (Some n) None e))) (λ e. ltb-false n (length xs) e) (cases_Bool (nat_lt n (length xs))))

list_any-append : {X : Type 0} (p : X → Bool) (xs : List X) (y : X) → list_any p (xs ++ y ∷ []) ≡ false → (list_any p xs ≡ false) × (p y ≡ false)
list_any-append p [] y h = (refl, (or_parts (p y) false h).0)
list_any-append p (x ∷ xs) y h =
    let parts = or_parts (p x) (list_any p (xs ++ y ∷ [])) h in
    let others = list_any-append p xs y parts.1 in (or_from (p x) (list_any p xs) parts.0 others.0, others.1)

-- what no overlap says of each two edits
or_overlap-none : (found : Option ℕ) (second : ℕ) (later : Option Fault) → or_overlap found second later ≡ None → (found ≡ None) × (later ≡ None)
or_overlap-none None second later h = (refl, h)
or_overlap-none (Some first) second later h = absurd (none-some _ (sym h))

AreFree : List PlainEdit → List PlainEdit → Type 0
AreFree before edits = AllByRecursion (λ edit. list_any (edits_overlap edit) before ≡ false) edits

free-append : (before : List PlainEdit) (edit : PlainEdit) (edits : List PlainEdit) → AllByRecursion (λ other. list_any (edits_overlap other) (before ++ edit ∷ []) ≡ false) edits → AllByRecursion (λ other. list_any (edits_overlap other) before ≡ false) edits × AllByRecursion (λ other. edits_overlap other edit ≡ false) edits
free-append before edit [] h = (tt, tt)
free-append before edit (other ∷ edits) h =
    let first = list_any-append (edits_overlap other) before edit h.0 in
    let others = free-append before edit edits h.1 in ((first.0, others.0), (first.1, others.1))

apart-behind : (before edits : List PlainEdit) → overlap_behind before edits ≡ None → AllByRecursion (λ edit. list_any (edits_overlap edit) before ≡ false) edits × AreApart edits
apart-behind before [] h = (tt, tt)
apart-behind before (edit ∷ edits) h =
    let parts = or_overlap-none (position (edits_overlap edit) before) (length before) (overlap_behind (before ++ edit ∷ []) edits) h in
    let others = apart-behind (before ++ edit ∷ []) edits parts.1 in
    let split = free-append before edit edits others.0 in
    ((position-none (edits_overlap edit) before parts.0, split.0), (All-from_recursion (λ other. edits_overlap other edit ≡ false) edits split.1, others.1))

pub apart-from_none : (edits : List PlainEdit) → overlap_of edits ≡ None → AreApart edits
apart-from_none edits h = (apart-behind [] edits h).1

pub apart-filter : (p : PlainEdit → Bool) (edits : List PlainEdit) → AreApart edits → AreApart (filter p edits)
apart-filter p [] h = tt
apart-filter p (edit ∷ edits) h =
    let others = apart-filter p edits h.1 in
    let free = All-filter p (λ other. edits_overlap other edit ≡ false) edits h.0 in
    elim (p edit) as (λ t. AreApart (cond t (edit ∷ filter p edits) (filter p edits))) [ true ↦ (free, others) | false ↦ others ]

-- edits that begin at different offsets
pub apart-pair : (edits : List PlainEdit) → AreApart edits → (a b : PlainEdit) → Contains edits a → Contains edits b → a.span.start ≢ b.span.start → (edits_overlap a b ≡ false) ⊎ (edits_overlap b a ≡ false)
apart-pair [] h a b (k, l, e) there other = absurd (omega (arith, l))
apart-pair (edit ∷ edits) h a b (zero, l, e) (zero, m, f) other = absurd (other (ap (λ x. x.span.start) (sym e ∙ f)))
apart-pair (edit ∷ edits) h a b (zero, l, e) (suc j, m, f) other =
    inr (subst (λ x. edits_overlap b x ≡ false) e (All-contains (λ x. edits_overlap x edit ≡ false) edits b h.0 (j, omega (arith, m), f)))
apart-pair (edit ∷ edits) h a b (suc i, l, e) (zero, m, f) other =
    inl (subst (λ x. edits_overlap a x ≡ false) f (All-contains (λ x. edits_overlap x edit ≡ false) edits a h.0 (i, omega (arith, l), e)))
apart-pair (edit ∷ edits) h a b (suc i, l, e) (suc j, m, f) other =
    apart-pair edits h.1 a b (i, omega (arith, l), e) (j, omega (arith, m), f) other

-- spans that don't overlap
pub spans-apart : (a b : PlainSpan) → a.start ≤ a.end → b.start ≤ b.end → spans_overlap a b ≡ false → a.start < b.end → b.start < a.end → ⊥
spans-apart a b ordered_a ordered_b none l m =
    let parts = or_parts (share_byte a b || is_inside a b) (is_inside b a) none in
    let first = or_parts (share_byte a b) (is_inside a b) parts.0 in
    let shared = first.0 in
    let inside = first.1 in
    let inside_too = parts.1 in
    grind (arith, nat_tests)

pub edits-apart : (a b : PlainEdit) → a.file ≡ b.file → edits_overlap a b ≡ false → spans_overlap a.span b.span ≡ false
edits-apart a b e none =
    ⊎_elim (λ n. absurd (both_ways _ n (eq-eqb a.file b.file e))) (λ n. n) (and_cases _ (spans_overlap a.span b.span) none)

-- the search for an overlap, edit by edit
module _ (edits : List Edit) (k : ℕ) (edit : Edit) (inside : k < length edits) (is : edit ≡ get_or edits k edit) where
  abbrev before : List Edit
  before = take k edits

  abbrev places : Option ℕ
  places = position (λ other. edits_overlap (plain_edit edit) (plain_edit other)) before

  from-here : overlap_behind (map plain_edit before) (map plain_edit (drop k edits)) ≡ or_overlap places k (overlap_behind (map plain_edit (take (k + 1) edits)) (map plain_edit (drop (k + 1) edits)))
  from-here =
      let split : drop k edits ≡ edit ∷ drop (k + 1) edits = drop_more edits k edit inside ∙ ap (λ x. x ∷ drop (k + 1) edits) (sym is) in
      let more : take (k + 1) edits ≡ before ++ edit ∷ [] = take_more edits k edit inside ∙ ap (λ x. before ++ x ∷ []) (sym is) in
      let size : length (map plain_edit before) ≡ k = length-map before plain_edit ∙ length-take-le k edits (omega (arith, inside)) in
      let both : map plain_edit before ++ plain_edit edit ∷ [] ≡ map plain_edit (take (k + 1) edits) = sym (map-append plain_edit before (edit ∷ [])) ∙ ap (map plain_edit) (sym more) in
      ap (λ es. overlap_behind (map plain_edit before) (map plain_edit es)) split
      ∙ ap (λ found. or_overlap found (length (map plain_edit before)) (overlap_behind (map plain_edit before ++ plain_edit edit ∷ []) (map plain_edit (drop (k + 1) edits)))) (position-map (edits_overlap (plain_edit edit)) plain_edit before)
      ∙ ap (λ n. or_overlap places n (overlap_behind (map plain_edit before ++ plain_edit edit ∷ []) (map plain_edit (drop (k + 1) edits)))) size
      ∙ ap (λ es. or_overlap places k (overlap_behind es (map plain_edit (drop (k + 1) edits)))) both

  pub overlap-more : places ≡ None → overlap_behind (map plain_edit before) (map plain_edit (drop k edits)) ≡ overlap_behind (map plain_edit (take (k + 1) edits)) (map plain_edit (drop (k + 1) edits))
  overlap-more e = from-here ∙ ap (λ found. or_overlap found k (overlap_behind (map plain_edit (take (k + 1) edits)) (map plain_edit (drop (k + 1) edits)))) e

  pub overlap-found : (first : ℕ) → places ≡ Some first → overlap_behind (map plain_edit before) (map plain_edit (drop k edits)) ≡ Some (overlap first k)
  overlap-found first e = from-here ∙ ap (λ found. or_overlap found k (overlap_behind (map plain_edit (take (k + 1) edits)) (map plain_edit (drop (k + 1) edits)))) e

-- edits without a fault
or_past_end-none : (found : Option ℕ) (later : Option Fault) → or_past_end found later ≡ None → (found ≡ None) × (later ≡ None)
or_past_end-none None later h = (refl, h)
or_past_end-none (Some first) later h = absurd (none-some _ (sym h))

within-one : (files : List PlainFile) (number : ℕ) (f : PlainFile) → slice_get files number ≡ Some f → (edit : PlainEdit) → is_past_end files edit ≡ false → (edit.file == number) ≡ true → edit.span.end ≤ length f.bytes
within-one files number f is edit none e =
    let here : slice_get files edit.file ≡ Some f = ap (slice_get files) (eqb-true edit.file number e) ∙ is in
    ltb-false (length f.bytes) edit.span.end (ap (ends_past edit.span.end) (sym here) ∙ none)

within-filter : (files : List PlainFile) (number : ℕ) (f : PlainFile) → slice_get files number ≡ Some f → (edits : List PlainEdit) → list_any (is_past_end files) edits ≡ false → AllByRecursion (λ edit. edit.span.end ≤ length f.bytes) (edits_of number edits)
within-filter files number f is [] h = tt
within-filter files number f is (edit ∷ edits) h =
    let parts = or_parts (is_past_end files edit) (list_any (is_past_end files) edits) h in
    by (edit.file == number) refl (within-filter files number f is edits parts.1) parts.0 where
      by : (t : Bool) → (edit.file == number) ≡ t → AllByRecursion (λ x. x.span.end ≤ length f.bytes) (edits_of number edits) → is_past_end files edit ≡ false → AllByRecursion (λ x. x.span.end ≤ length f.bytes) (cond t (edit ∷ edits_of number edits) (edits_of number edits))
      by true e others none = (within-one files number f is edit none e, others)
      by false e others none = others

module _ (files : List SourceFile) (edits : List Edit) (none : fault_of (map plain_file files) (map plain_edit edits) ≡ None) where
  pub fault-apart : AreApart (map plain_edit edits)
  fault-apart =
      apart-from_none (map plain_edit edits) (or_past_end-none (position (is_past_end (map plain_file files)) (map plain_edit edits)) (overlap_of (map plain_edit edits)) none).1

  pub fault-within : (number : ℕ) (f : SourceFile) → number < length files → f ≡ get_or files number f → AreWithin (length f.bytes.items) (edits_in number edits)
  fault-within number f inside is =
      let found = (or_past_end-none (position (is_past_end (map plain_file files)) (map plain_edit edits)) (overlap_of (map plain_edit edits)) none).0 in
      let here : slice_get (map plain_file files) number ≡ Some (plain_file f) = slice_get-map plain_file files number ∙ ap (option_map plain_file) (slice_get_read files (length files) number f refl inside is) in
      All-from_recursion (λ edit. edit.span.end ≤ length f.bytes.items) (edits_in number edits)
      (within-filter (map plain_file files) number (plain_file f) here (map plain_edit edits) (position-none (is_past_end (map plain_file files)) (map plain_edit edits) found))
