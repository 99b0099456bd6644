-- What is written of a file from one place where something is put in to the next.
use Rattle.std.proofs.Common.{◌≡◌, ◌≢◌, ℕ, zero, suc, ◌+◌, ◌-◌, ◌<◌, ◌≤◌, ◌==◌, Bool, true, false, not, cond, ◌&&◌, List, [], ◌∷◌, ◌++◌, length, get_or, take, drop, map, refl, sym, ap, ◌∙◌, inl, inr, append_assoc, arith}
use Rattle.std.specs.Prelude.{nat_le, nat_lt, All, Contains}
use Rattle.std.specs.List.{list_any, filter}
use Rattle.std.proofs.lemmas.Bool.{cases_lt, cases_order, eqb-true, ne_eqb, leb-true, ltb-true, le-leb, lt-ltb, and_right, and_from, and_parts, or_from, or_left, or_right, false_from_ne_true}
use Rattle.std.proofs.Common.{length-drop}
use Rattle.std.proofs.lemmas.List.{drop_more, drop-drop, append-nil}
use Rattle.std.proofs.lemmas.List.Elements.{All-filter, All-map, filter_passes, All-head, All-tail, All-contains, All-weaker, All-contains_itself}
use Rattle.file_edits.specs.declared.edit.Edit.{Edit}
use Rattle.file_edits.specs.Edits.{PlainEdit, is_empty, starts_at, covers, texts, put_in, unless_covered, edited_from}
use Rattle.file_edits.specs.Places.{covered_to, next_start, NoneReaches, AreWithin, AreApart, plain_edit, edits_in}
use Rattle.file_edits.proofs.FaultLemmas.{apart-filter, apart-pair, spans-apart, edits-apart}
use Rattle.file_edits.proofs.PlaceLemmas.{EndsAt, covered-each, covered-witness, next-most, next-behind, next-each}

-- offsets where nothing is put in, and that no span covers
filter-none : (p : PlainEdit → Bool) (edits : List PlainEdit) → All (λ edit. p edit ≡ false) edits → filter p edits ≡ []
filter-none p [] h = refl
filter-none p (edit ∷ edits) h =
    ap (λ t. cond t (edit ∷ filter p edits) (filter p edits)) (All-head (λ e. p e ≡ false) edit edits h)
    ∙ filter-none p edits (All-tail (λ e. p e ≡ false) edit edits h)

any-none : (p : PlainEdit → Bool) (edits : List PlainEdit) → All (λ edit. p edit ≡ false) edits → list_any p edits ≡ false
any-none p [] h = refl
any-none p (edit ∷ edits) h =
    or_from (p edit) (list_any p edits) (All-head (λ e. p e ≡ false) edit edits h) (any-none p edits (All-tail (λ e. p e ≡ false) edit edits h))

any-at : (p : PlainEdit → Bool) (edits : List PlainEdit) (edit : PlainEdit) (k : ℕ) → k < length edits → get_or edits k edit ≡ edit → p edit ≡ true → list_any p edits ≡ true
any-at p [] edit k l e passes = absurd (omega (arith, l))
any-at p (first ∷ edits) edit zero l e passes = or_left (p first) (list_any p edits) (ap p e ∙ passes)
any-at p (first ∷ edits) edit (suc k) l e passes =
    or_right (p first) (list_any p edits) (any-at p edits edit k (omega (arith, l)) e passes)

any-some : (p : PlainEdit → Bool) (edits : List PlainEdit) (edit : PlainEdit) → Contains edits edit → p edit ≡ true → list_any p edits ≡ true
any-some p edits edit among passes = any-at p edits edit among.0 among.1 among.2 passes

pub put_in-none : (edits : List PlainEdit) (at : ℕ) → All (λ edit. edit.span.start ≢ at) edits → put_in edits at ≡ []
put_in-none edits at h =
    let first = filter-none (λ edit. is_empty edit && starts_at at edit) edits (All-weaker (λ edit. edit.span.start ≢ at) (λ edit. (is_empty edit && starts_at at edit) ≡ false) (λ edit other. and_right (is_empty edit) (starts_at at edit) (ne_eqb edit.span.start at other)) edits h) in
    let second = filter-none (λ edit. not (is_empty edit) && starts_at at edit) edits (All-weaker (λ edit. edit.span.start ≢ at) (λ edit. (not (is_empty edit) && starts_at at edit) ≡ false) (λ edit other. and_right (not (is_empty edit)) (starts_at at edit) (ne_eqb edit.span.start at other)) edits h) in
    ap (λ es. texts es ++ texts (filter (λ edit. not (is_empty edit) && starts_at at edit) edits)) first ∙ ap texts second

-- bytes that go, and bytes that stay
pub skipped : (n at : ℕ) (edits : List PlainEdit) (rest : List ℕ) → n ≤ length rest → ((k : ℕ) → at ≤ k → k < at + n → (put_in edits k ≡ []) × (list_any (covers k) edits ≡ true)) → edited_from at edits rest ≡ edited_from (at + n) edits (drop n rest)
skipped zero at edits rest l h = let e : at ≡ at + 0 = omega arith in ap (λ k. edited_from k edits rest) e
skipped (suc n) at edits [] l h = absurd (omega (arith, l))
skipped (suc n) at edits (byte ∷ rest) l h =
    let here = h at (omega arith) (omega arith) in
    let next : suc at + n ≡ at + suc n = omega arith in
    ap (λ t. (t ++ unless_covered edits at byte) ++ edited_from (suc at) edits rest) here.0
    ∙ ap (λ t. cond t [] (byte ∷ []) ++ edited_from (suc at) edits rest) here.1
    ∙ skipped n (suc at) edits rest (omega (arith, l)) (λ k le less. h k (omega (arith, le)) (omega (arith, less)))
    ∙ ap (λ k. edited_from k edits (drop n rest)) next

pub kept : (n at : ℕ) (edits : List PlainEdit) (rest : List ℕ) → n ≤ length rest → ((k : ℕ) → at ≤ k → k < at + n → (put_in edits k ≡ []) × (list_any (covers k) edits ≡ false)) → edited_from at edits rest ≡ take n rest ++ edited_from (at + n) edits (drop n rest)
kept zero at edits rest l h = let e : at ≡ at + 0 = omega arith in ap (λ k. edited_from k edits rest) e
kept (suc n) at edits [] l h = absurd (omega (arith, l))
kept (suc n) at edits (byte ∷ rest) l h =
    let here = h at (omega arith) (omega arith) in
    let next : suc at + n ≡ at + suc n = omega arith in
    ap (λ t. (t ++ unless_covered edits at byte) ++ edited_from (suc at) edits rest) here.0
    ∙ ap (λ t. cond t [] (byte ∷ []) ++ edited_from (suc at) edits rest) here.1
    ∙ ap (λ t. byte ∷ t) (kept n (suc at) edits rest (omega (arith, l)) (λ k le less. h k (omega (arith, le)) (omega (arith, less)))
    ∙ ap (λ k. take n rest ++ edited_from k edits (drop n rest)) next)

-- from an offset where something is put in, to where its edits end
module _ (edits : List PlainEdit) (size at : ℕ) (bytes : List ℕ) (sized : length bytes ≡ size) (inside : at < size) (ordered : All (λ edit. edit.span.start ≤ edit.span.end) edits) (one : All (λ edit. All (λ other. edit.file ≡ other.file) edits) edits) (within : AreWithin size edits) (apart : AreApart edits) (none : NoneReaches at edits) where
  abbrev resumed : ℕ
  resumed = covered_to at at edits

  abbrev next : ℕ
  next = next_start size at edits

  -- no edit begins within a span that begins before it
  begins-outside : (a b : PlainEdit) → Contains edits a → Contains edits b → a.span.start < b.span.start → b.span.start < a.span.end → ⊥
  begins-outside a b ca cb l m =
      let oa = All-contains (λ edit. edit.span.start ≤ edit.span.end) edits a ordered ca in
      let ob = All-contains (λ edit. edit.span.start ≤ edit.span.end) edits b ordered cb in
      let fa = All-contains (λ other. a.file ≡ other.file) edits b (All-contains (λ edit. All (λ other. edit.file ≡ other.file) edits) edits a one ca) cb in
      elim (apart-pair edits apart a b ca cb (λ e. omega (arith, e, l))) [
        | inl e ↦ spans-apart a.span b.span oa ob (edits-apart a b fa e) (omega (arith, l, ob, m)) (omega arith)
        | inr e ↦ spans-apart b.span a.span ob oa (edits-apart b a (sym fa) e) (omega arith) (omega (arith, l, ob, m))
      ]

  each : (P : PlainEdit → Type 0) → ((edit : PlainEdit) → Contains edits edit → P edit) → All P edits
  each P h = All-weaker (Contains edits) P h edits (All-contains_itself edits)

  reached-before : (edit : PlainEdit) → Contains edits edit → edit.span.start < at → edit.span.end ≤ at
  reached-before edit ce l = All-contains (λ x. x.span.start < at → x.span.end ≤ at) edits edit none ce l

  covered-at : (edit : PlainEdit) → Contains edits edit → edit.span.start ≡ at → edit.span.end ≤ resumed
  covered-at edit ce e = All-contains (λ x. x.span.start ≡ at → x.span.end ≤ resumed) edits edit (covered-each at at edits) ce e

  starts-behind : (edit : PlainEdit) → Contains edits edit → at < edit.span.start → next ≤ edit.span.start
  starts-behind edit ce l = All-contains (λ x. at < x.span.start → next ≤ x.span.start) edits edit (next-each size at edits) ce l

  abbrev byte : ℕ
  byte = get_or bytes at 0

  abbrev rest : List ℕ
  rest = drop (at + 1) bytes

  split : drop at bytes ≡ byte ∷ rest
  split = drop_more bytes at 0 (omega (arith, sized, inside))

  behind : (n : ℕ) → suc at + n ≤ size → (drop n rest ≡ drop (suc at + n) bytes) × (n ≤ length rest)
  behind n h =
      let same : at + 1 + n ≡ suc at + n = omega arith in
      (drop-drop n (at + 1) bytes ∙ ap (λ k. drop k bytes) same, omega (arith, length-drop (at + 1) bytes, sized, h))

  -- where an edit at the offset covers bytes
  module _ (goes : at < resumed) where
    widest : EndsAt at resumed edits
    widest = elim (covered-witness at at edits) [ inl e ↦ absurd (omega (arith, e, goes)) | inr w ↦ w ]

    pub resumed-within : resumed ≤ size
    resumed-within =
        let w = widest in
        let le = All-contains (λ edit. edit.span.end ≤ size) edits w.edit within w.among in omega (arith, le, w.is_end)

    none_begins : (edit : PlainEdit) → Contains edits edit → at < edit.span.start → edit.span.start < resumed → ⊥
    none_begins edit ce l m =
        let w = widest in begins-outside w.edit edit w.among ce (omega (arith, l, w.start)) (omega (arith, m, w.is_end))

    pub resumed-reaches : NoneReaches resumed edits
    resumed-reaches = each (λ edit. edit.span.start < resumed → edit.span.end ≤ resumed) (λ edit ce l.
        elim (cases_order edit.span.start at) [
          | inl e ↦ covered-at edit ce e
          | inr (inl m) ↦ let le = reached-before edit ce m in omega (arith, le, goes)
          | inr (inr m) ↦ absurd (none_begins edit ce m l)
        ])

    covered-here : (k : ℕ) → at ≤ k → k < resumed → list_any (covers k) edits ≡ true
    covered-here k le l =
        let w = widest in
        any-some (covers k) edits w.edit w.among (and_from (nat_le w.edit.span.start k) (nat_lt k w.edit.span.end) (le-leb w.edit.span.start k (omega (arith, le, w.start))) (lt-ltb k w.edit.span.end (omega (arith, l, w.is_end))))

    none-put_in : (k : ℕ) → at < k → k < resumed → put_in edits k ≡ []
    none-put_in k l m =
        put_in-none edits k (each (λ edit. edit.span.start ≢ k) (λ edit ce e. none_begins edit ce (omega (arith, e, l)) (omega (arith, e, m))))

    pub written-resumed : (out : List ℕ) → (out ++ put_in edits at) ++ edited_from resumed edits (drop resumed bytes) ≡ out ++ edited_from at edits (drop at bytes)
    written-resumed out =
        let n = resumed - suc at in
        let whole : suc at + n ≡ resumed = omega (arith, goes) in
        let le = resumed-within in
        let later = behind n (omega (arith, whole, le)) in
        let run : edited_from (suc at) edits rest ≡ edited_from resumed edits (drop resumed bytes) =
        skipped n (suc at) edits rest later.1 (λ k l m. (none-put_in k (omega (arith, l)) (omega (arith, m, whole)), covered-here k (omega (arith, l)) (omega (arith, m, whole))))
        ∙ ap (edited_from (suc at + n) edits) later.0 ∙ ap (λ k. edited_from k edits (drop k bytes)) whole in
        let first : edited_from at edits (drop at bytes) ≡ put_in edits at ++ edited_from (suc at) edits rest =
        ap (edited_from at edits) split
        ∙ ap (λ t. (put_in edits at ++ cond t [] (byte ∷ [])) ++ edited_from (suc at) edits rest) (covered-here at (omega arith) goes)
        ∙ ap (λ xs. xs ++ edited_from (suc at) edits rest) (append-nil (put_in edits at)) in
        append_assoc out (put_in edits at) (edited_from resumed edits (drop resumed bytes))
        ∙ ap (λ xs. out ++ (put_in edits at ++ xs)) (sym run) ∙ ap (λ xs. out ++ xs) (sym first)

  -- where none does
  module _ (stays : resumed ≤ at) where
    ended : (edit : PlainEdit) → Contains edits edit → edit.span.start ≤ at → edit.span.end ≤ at
    ended edit ce le =
        elim (cases_lt edit.span.start at) [
          | inl l ↦ reached-before edit ce l
          | inr m ↦ let e = covered-at edit ce (omega (arith, le, m)) in omega (arith, e, stays)
        ]

    pub next-reaches : NoneReaches next edits
    next-reaches = each (λ edit. edit.span.start < next → edit.span.end ≤ next) (λ edit ce l.
        elim (cases_lt at edit.span.start) [
          | inl m ↦ let le = starts-behind edit ce m in absurd (omega (arith, le, l))
          | inr m ↦ let le = ended edit ce m in let less = next-behind size at edits inside in omega (arith, le, less)
        ])

    none-covered : (k : ℕ) → at ≤ k → k < next → list_any (covers k) edits ≡ false
    none-covered k le l =
        any-none (covers k) edits (each (λ edit. covers k edit ≡ false) (λ edit ce. false_from_ne_true (covers k edit) (λ e.
        let parts = and_parts (nat_le edit.span.start k) (nat_lt k edit.span.end) e in
        let from = leb-true edit.span.start k parts.0 in
        let to = ltb-true k edit.span.end parts.1 in
        elim (cases_lt at edit.span.start) [
          | inl m ↦ let n = starts-behind edit ce m in omega (arith, n, l, from)
          | inr m ↦ let n = ended edit ce m in omega (arith, n, to, le)
        ])))

    nothing-put_in : (k : ℕ) → at < k → k < next → put_in edits k ≡ []
    nothing-put_in k l m =
        put_in-none edits k (each (λ edit. edit.span.start ≢ k) (λ edit ce e. let n = starts-behind edit ce (omega (arith, e, l)) in omega (arith, e, m, n)))

    pub written-next : (out : List ℕ) → ((out ++ put_in edits at) ++ take (next - at) (drop at bytes)) ++ edited_from next edits (drop next bytes) ≡ out ++ edited_from at edits (drop at bytes)
    written-next out =
        let n = next - suc at in
        let less : at < next = next-behind size at edits inside in
        let whole : suc at + n ≡ next = omega (arith, less) in
        let most = next-most size at edits in
        let later = behind n (omega (arith, whole, most)) in
        let count : next - at ≡ suc n = omega (arith, less) in
        let run : edited_from (suc at) edits rest ≡ take n rest ++ edited_from next edits (drop next bytes) =
        kept n (suc at) edits rest later.1 (λ k l m. (nothing-put_in k (omega (arith, l)) (omega (arith, m, whole)), none-covered k (omega (arith, l)) (omega (arith, m, whole))))
        ∙ ap (λ xs. take n rest ++ edited_from (suc at + n) edits xs) later.0 ∙ ap (λ k. take n rest ++ edited_from k edits (drop k bytes)) whole in
        let first : edited_from at edits (drop at bytes) ≡ put_in edits at ++ (byte ∷ edited_from (suc at) edits rest) =
        ap (edited_from at edits) split
        ∙ ap (λ t. (put_in edits at ++ cond t [] (byte ∷ [])) ++ edited_from (suc at) edits rest) (none-covered at (omega arith) less)
        ∙ append_assoc (put_in edits at) (byte ∷ []) (edited_from (suc at) edits rest) in
        let copied : take (next - at) (drop at bytes) ≡ byte ∷ take n rest = ap (take (next - at)) split ∙ ap (λ k. take k (byte ∷ rest)) count in
        ap (λ xs. ((out ++ put_in edits at) ++ xs) ++ edited_from next edits (drop next bytes)) copied
        ∙ append_assoc (out ++ put_in edits at) (byte ∷ take n rest) (edited_from next edits (drop next bytes))
        ∙ append_assoc out (put_in edits at) (byte ∷ (take n rest ++ edited_from next edits (drop next bytes)))
        ∙ ap (λ xs. out ++ (put_in edits at ++ (byte ∷ xs))) (sym run) ∙ ap (λ xs. out ++ xs) (sym first)

-- the edits of one file
pub ordered-in : (number : ℕ) (edits : List Edit) → All (λ edit. edit.span.start ≤ edit.span.end) (edits_in number edits)
ordered-in number edits =
    All-filter (λ edit. edit.file == number) (λ edit. edit.span.start ≤ edit.span.end) (map plain_edit edits) (All-map (λ edit. edit.span.start ≤ edit.span.end) plain_edit edits (λ k d l. (get_or edits k d).span.ordered))

pub one-in : (number : ℕ) (edits : List Edit) → All (λ edit. All (λ other. edit.file ≡ other.file) (edits_in number edits)) (edits_in number edits)
one-in number edits =
    let all = filter_passes (λ edit. edit.file == number) (map plain_edit edits) in
    λ k d l j e m. eqb-true (get_or (edits_in number edits) k d).file number (all k d l) ∙ sym (eqb-true (get_or (edits_in number edits) j e).file number (all j e m))

pub apart-in : (number : ℕ) (edits : List Edit) → AreApart (map plain_edit edits) → AreApart (edits_in number edits)
apart-in number edits h = apart-filter (λ edit. edit.file == number) (map plain_edit edits) h
