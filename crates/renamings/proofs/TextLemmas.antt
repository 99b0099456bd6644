-- The text of a file in which names are renamed, without its splices.
use Rattle.std.proofs.Common.{◌≡◌, ℕ, zero, suc, ◌+◌, ◌<◌, ◌≤◌, ◌==◌, Bool, true, false, not, cond, ◌&&◌, ◌||◌, List, [], ◌∷◌, ◌++◌, length, get_or, drop, map, refl, sym, ap, subst, ◌∙◌, ◌⊎◌, inl, inr, ⊎_elim, arith, length-append, length-drop}
use Rattle.std.specs.Prelude.{if◌then◌else◌, ⊤, nat_le, nat_lt, nat_eq, Contains}
use Rattle.std.specs.List.{list_any, list_all, filter, flat_map, starts_with}
use Rattle.std.proofs.lemmas.Bool.{false≢true, both_ways, cases_lt, eqb-true, ne_eqb, eq-eqb, and_parts, and_left, and_right, and_from, or_parts, or_from, cond-true, cond-false, not_from_false}
use Rattle.std.proofs.lemmas.List.{append-nil, get_or-drop}
use Rattle.text_edits.specs.Span.{PlainSpan}
use Rattle.c_names.specs.Names.{is_nondigit, is_word_byte, is_identifier}
use Rattle.c_text.specs.Splices.{Placed, placed, splice_length, unless_splice, spliced_from, spliced}
use Rattle.file_edits.specs.Edits.{PlainEdit, is_empty, starts_at, covers, texts, put_in, unless_covered, edited_from}
use Rattle.renamings.specs.Renamings.{moved_behind}
use Rattle.renamings.proofs.SeamLemmas.{nondigit-is_not, nondigit-is_word}
use Rattle.renamings.proofs.SpanLemmas.{outside-among, outside-below, moved-before, RiseFrom, IsOutside, IsFree, IsInside, cases-inside, free-next, free-below, among-rise, end-outside, begins_in, covered_in, free-begins, free-covered, start-begins, inside-covered, inside-begins, moved-next, moved-end}

-- ---- texts that differ only behind where names begin

abbrev pub IsSameTo : List ℕ → List ℕ → Type 0
IsSameTo [] [] = ⊤
IsSameTo [] (c ∷ ys) = ⊥
IsSameTo (b ∷ xs) [] = ⊥
IsSameTo (b ∷ xs) (c ∷ ys) = ((b ≡ c) × IsSameTo xs ys) ⊎ ((is_nondigit b ≡ true) × (is_nondigit c ≡ true))

-- splices begin with a backslash, and newlines and carriage returns follow
no-splice : (b : ℕ) (rest : List ℕ) → (92 == b) ≡ false → splice_length (b ∷ rest) ≡ 0
no-splice b rest h =
    cond-false (starts_with nat_eq (b ∷ rest) (92 ∷ 10 ∷ [])) 2 _ (and_left (92 == b) _ h)
    ∙ cond-false (starts_with nat_eq (b ∷ rest) (92 ∷ 13 ∷ 10 ∷ [])) 3 0 (and_left (92 == b) _ h)

no-splice_second : (b x : ℕ) (rest : List ℕ) → is_nondigit x ≡ true → splice_length (b ∷ x ∷ rest) ≡ 0
no-splice_second b x rest h =
    cond-false (starts_with nat_eq (b ∷ x ∷ rest) (92 ∷ 10 ∷ [])) 2 _ (and_right (92 == b) ((10 == x) && true) (and_left (10 == x) true (nondigit-is_not x 10 h refl)))
    ∙ cond-false (starts_with nat_eq (b ∷ x ∷ rest) (92 ∷ 13 ∷ 10 ∷ [])) 3 0 (and_right (92 == b) _ (and_left (13 == x) _ (nondigit-is_not x 13 h refl)))

no-splice_third : (b x y : ℕ) (rest : List ℕ) → is_nondigit y ≡ true → splice_length (b ∷ x ∷ y ∷ rest) ≡ cond ((92 == b) && ((10 == x) && true)) 2 0
no-splice_third b x y rest h =
    ap (λ t. cond ((92 == b) && ((10 == x) && true)) 2 (cond t 3 0)) (and_right (92 == b) ((13 == x) && ((10 == y) && true)) (and_right (13 == x) ((10 == y) && true) (and_left (10 == y) true (nondigit-is_not y 10 h refl))))

splice-third : (b x : ℕ) (xs ys : List ℕ) → IsSameTo xs ys → splice_length (b ∷ x ∷ xs) ≡ splice_length (b ∷ x ∷ ys)
splice-third b x [] [] h = refl
splice-third b x [] (y ∷ ys) h = absurd h
splice-third b x (y ∷ xs) [] h = absurd h
splice-third b x (y ∷ xs) (z ∷ ys) (inl h) = ap (λ c. splice_length (b ∷ x ∷ c ∷ [])) h.0
splice-third b x (y ∷ xs) (z ∷ ys) (inr h) = no-splice_third b x y xs h.0 ∙ sym (no-splice_third b x z ys h.1)

pub splice-same : (b : ℕ) (xs ys : List ℕ) → IsSameTo xs ys → splice_length (b ∷ xs) ≡ splice_length (b ∷ ys)
splice-same b [] [] h = refl
splice-same b [] (y ∷ ys) h = absurd h
splice-same b (x ∷ xs) [] h = absurd h
splice-same b (x ∷ xs) (y ∷ ys) (inl h) = splice-third b x xs ys h.1 ∙ ap (λ c. splice_length (b ∷ c ∷ ys)) h.0
splice-same b (x ∷ xs) (y ∷ ys) (inr h) = no-splice_second b x xs h.0 ∙ sym (no-splice_second b y ys h.1)

-- the bytes of a splice behind the backslash are none of a name
abbrev pub IsQuiet : ℕ → List ℕ → Type 0
IsQuiet more rest = (j : ℕ) → j < more → is_nondigit (get_or rest j 0) ≡ false

by-splice : (two three : Bool) (m : ℕ) → cond two 2 (cond three 3 0) ≡ suc m → ((two ≡ true) × (m ≡ 1)) ⊎ ((three ≡ true) × (m ≡ 2))
by-splice true three m h = inl (refl, omega (arith, h))
by-splice false true m h = inr (refl, omega (arith, h))
by-splice false false m h = absurd (omega (arith, h))

quiet-two : (x : ℕ) (rest : List ℕ) (m : ℕ) → m ≡ 1 → 10 ≡ x → IsQuiet m (x ∷ rest)
quiet-two x rest m size is zero l = ap is_nondigit (sym is)
quiet-two x rest m size is (suc j) l = absurd (omega (arith, size, l))

quiet-three : (x y : ℕ) (rest : List ℕ) (m : ℕ) → m ≡ 2 → 13 ≡ x → 10 ≡ y → IsQuiet m (x ∷ y ∷ rest)
quiet-three x y rest m size is also zero l = ap is_nondigit (sym is)
quiet-three x y rest m size is also (suc zero) l = ap is_nondigit (sym also)
quiet-three x y rest m size is also (suc (suc j)) l = absurd (omega (arith, size, l))

second-is : (b c x : ℕ) (t : Bool) → ((92 == b) && ((c == x) && t)) ≡ true → (c ≡ x) × (t ≡ true)
second-is b c x t h =
    let rest = (and_parts (92 == b) ((c == x) && t) h).1 in
    let parts = and_parts (c == x) t rest in (eqb-true c x parts.0, parts.1)

splice-quiet : (b : ℕ) (rest : List ℕ) (m : ℕ) → splice_length (b ∷ rest) ≡ suc m → IsQuiet m rest
splice-quiet b [] m h =
    elim (by-splice ((92 == b) && false) ((92 == b) && false) m h) [
      | inl e ↦ absurd (false≢true (and_parts (92 == b) false e.0).1)
      | inr e ↦ absurd (false≢true (and_parts (92 == b) false e.0).1)
    ]
splice-quiet b (x ∷ []) m h =
    elim (by-splice ((92 == b) && ((10 == x) && true)) ((92 == b) && ((13 == x) && false)) m h) [
      | inl e ↦ quiet-two x [] m e.1 (second-is b 10 x true e.0).0
      | inr e ↦ absurd (false≢true (second-is b 13 x false e.0).1)
    ]
splice-quiet b (x ∷ y ∷ rest) m h =
    elim (by-splice ((92 == b) && ((10 == x) && true)) ((92 == b) && ((13 == x) && ((10 == y) && true))) m h) [
      | inl e ↦ quiet-two x (y ∷ rest) m e.1 (second-is b 10 x true e.0).0
      | inr e ↦
          let parts = second-is b 13 x ((10 == y) && true) e.0 in
          quiet-three x y rest m e.1 parts.0 (eqb-true 10 y (and_parts (10 == y) true parts.1).0)
    ]

-- ---- bytes of a text at their offsets

abbrev pub placed_from : ℕ → List ℕ → List Placed
placed_from at [] = []
placed_from at (b ∷ rest) = placed b at ∷ placed_from (suc at) rest

-- a text without backslashes has no splices
spliced-words : (words : List ℕ) (at : ℕ) (rest : List ℕ) → list_all is_word_byte words ≡ true → spliced_from 0 at (words ++ rest) ≡ placed_from at words ++ spliced_from 0 (at + length words) rest
spliced-words [] at rest h = let e : at ≡ at + 0 = omega arith in ap (λ k. spliced_from 0 k rest) e
spliced-words (b ∷ words) at rest h =
    let parts = and_parts (is_word_byte b) (list_all is_word_byte words) h in
    let other : (92 == b) ≡ false = ne_eqb 92 b (λ e. both_ways (is_word_byte 92) refl (ap is_word_byte e ∙ parts.0)) in
    let next : suc at + length words ≡ at + length (b ∷ words) = omega arith in
    ap (λ n. unless_splice n (placed b at) (λ more. spliced_from more (suc at) (words ++ rest))) (no-splice b (words ++ rest) other)
    ∙ ap (λ t. placed b at ∷ t) (spliced-words words (suc at) rest parts.1)
    ∙ ap (λ k. placed b at ∷ (placed_from (suc at) words ++ spliced_from 0 k rest)) next

-- the byte at an offset stays
abbrev pub keeps : ℕ → List Placed → Bool
keeps at text = list_any (λ p. p.at == at) text

keeps-behind : (rest : List ℕ) (more at low : ℕ) → low < at → keeps low (spliced_from more at rest) ≡ false
keeps-behind [] more at low l = refl
keeps-behind (b ∷ rest) (suc more) at low l = keeps-behind rest more (suc at) low (omega (arith, l))
keeps-behind (b ∷ rest) zero at low l =
    by (splice_length (b ∷ rest)) (λ more. keeps-behind rest more (suc at) low (omega (arith, l))) where
      by : (n : ℕ) → ((more : ℕ) → keeps low (spliced_from more (suc at) rest) ≡ false) → keeps low (unless_splice n (placed b at) (λ more. spliced_from more (suc at) rest)) ≡ false
      by zero h = or_from (at == low) (keeps low (spliced_from 0 (suc at) rest)) (ne_eqb at low (λ e. absurd (omega (arith, e, l)))) (h 0)
      by (suc more) h = h more

-- a text from a byte on: the byte stays, or it belongs to a splice
data FirstStep (more at b : ℕ) (rest : List ℕ) : Type 0 where
  stays : more ≡ 0 → splice_length (b ∷ rest) ≡ 0 → spliced_from more at (b ∷ rest) ≡ placed b at ∷ spliced_from 0 (suc at) rest → FirstStep more at b rest
  goes : (later : ℕ) → spliced_from more at (b ∷ rest) ≡ spliced_from later (suc at) rest → FirstStep more at b rest

first-step : (more at b : ℕ) (rest : List ℕ) → FirstStep more at b rest
first-step (suc more) at b rest = goes more refl
first-step zero at b rest = by (splice_length (b ∷ rest)) refl where
  by : (n : ℕ) → splice_length (b ∷ rest) ≡ n → FirstStep 0 at b rest
  by zero e = stays refl e (ap (λ n. unless_splice n (placed b at) (λ more. spliced_from more (suc at) rest)) e)
  by (suc more) e = goes more (ap (λ n. unless_splice n (placed b at) (λ more. spliced_from more (suc at) rest)) e)

-- an offset's byte and what follows it
pub head-is : (bytes : List ℕ) (at b : ℕ) (rest : List ℕ) → drop at bytes ≡ b ∷ rest → get_or bytes at 0 ≡ b
head-is bytes at b rest e =
    let same : at ≡ at + 0 = omega arith in
    ap (λ k. get_or bytes k 0) same ∙ sym (get_or-drop at bytes 0 0) ∙ ap (λ l. get_or l 0 0) e

pub tail-is : (bytes : List ℕ) (at b : ℕ) (rest : List ℕ) → drop at bytes ≡ b ∷ rest → drop (suc at) bytes ≡ rest
tail-is [] zero b rest e = cc
tail-is [] (suc at) b rest e = cc
tail-is (x ∷ bytes) zero b rest e = cc
tail-is (x ∷ bytes) (suc at) b rest e = tail-is bytes at b rest e

-- ---- the edits of a renaming

abbrev pub named : ℕ → List ℕ → PlainSpan → PlainEdit
named number new span = record { file = number; span = span; text = new }

module _ (number : ℕ) (new : List ℕ) where
  none-empty : (low at : ℕ) (spans : List PlainSpan) → RiseFrom low spans → filter (λ edit. is_empty edit && starts_at at edit) (map (named number new) spans) ≡ []
  none-empty low at [] r = refl
  none-empty low at (span ∷ spans) r =
      ap (λ t. cond t (named number new span ∷ filter (λ edit. is_empty edit && starts_at at edit) (map (named number new) spans)) (filter (λ edit. is_empty edit && starts_at at edit) (map (named number new) spans))) (and_left (span.start == span.end) (span.start == at) (ne_eqb span.start span.end (λ e. absurd (omega (arith, e, r.1)))))
      ∙ none-empty span.end at spans r.2

  none-start : (at : ℕ) (spans : List PlainSpan) → begins_in spans at ≡ false → filter (λ edit. not (is_empty edit) && starts_at at edit) (map (named number new) spans) ≡ []
  none-start at [] h = refl
  none-start at (span ∷ spans) h =
      let parts = or_parts (span.start == at) (begins_in spans at) h in
      ap (λ t. cond t (named number new span ∷ filter (λ edit. not (is_empty edit) && starts_at at edit) (map (named number new) spans)) (filter (λ edit. not (is_empty edit) && starts_at at edit) (map (named number new) spans))) (and_right (not (span.start == span.end)) (span.start == at) parts.0)
      ∙ none-start at spans parts.1

  one-start : (low : ℕ) (spans : List PlainSpan) (span : PlainSpan) → RiseFrom low spans → Contains spans span → filter (λ edit. not (is_empty edit) && starts_at span.start edit) (map (named number new) spans) ≡ named number new span ∷ []
  one-start low [] span r (k, l, e) = absurd (omega (arith, l))
  one-start low (first ∷ spans) span r (zero, l, e) =
      let start : first.start ≡ span.start = ap (λ s. s.start) e in
      let end : first.end ≡ span.end = ap (λ s. s.end) e in
      let later = filter (λ edit. not (is_empty edit) && starts_at span.start edit) (map (named number new) spans) in
      let test = and_from (not (first.start == first.end)) (first.start == span.start) (not_from_false (first.start == first.end) (ne_eqb first.start first.end (λ is. absurd (omega (arith, is, r.1))))) (eq-eqb first.start span.start start) in
      let others = none-start span.start spans (free-begins first.end span.start spans r.2 (free-below first.end span.start spans r.2 (omega (arith, start, r.1)))) in
      ap (λ t. cond t (named number new first ∷ later) later) test ∙ ap (λ es. named number new first ∷ es) others
      ∙ ap (λ s. named number new s ∷ []) e
  one-start low (first ∷ spans) span r (suc k, l, e) =
      let there = among-rise first.end spans span r.2 (k, omega (arith, l), e) in
      let later = filter (λ edit. not (is_empty edit) && starts_at span.start edit) (map (named number new) spans) in
      let test = and_right (not (first.start == first.end)) (first.start == span.start) (ne_eqb first.start span.start (λ is. absurd (omega (arith, is, r.1, there.0)))) in
      ap (λ t. cond t (named number new first ∷ later) later) test ∙ one-start first.end spans span r.2 (k, omega (arith, l), e)

  covers-is : (at : ℕ) (spans : List PlainSpan) → list_any (covers at) (map (named number new) spans) ≡ covered_in spans at
  covers-is at [] = refl
  covers-is at (span ∷ spans) = ap (λ t. (nat_le span.start at && nat_lt at span.end) || t) (covers-is at spans)

  module _ (spans : List PlainSpan) (rise : RiseFrom 0 spans) where
    abbrev edits : List PlainEdit
    edits = map (named number new) spans

    put_in-none : (at : ℕ) → begins_in spans at ≡ false → put_in edits at ≡ []
    put_in-none at h =
        ap (λ es. texts es ++ texts (filter (λ edit. not (is_empty edit) && starts_at at edit) edits)) (none-empty 0 at spans rise)
        ∙ ap texts (none-start at spans h)

    put_in-start : (span : PlainSpan) → Contains spans span → put_in edits span.start ≡ new
    put_in-start span there =
        ap (λ es. texts es ++ texts (filter (λ edit. not (is_empty edit) && starts_at span.start edit) edits)) (none-empty 0 span.start spans rise)
        ∙ ap texts (one-start 0 spans span rise there) ∙ append-nil new

    edited-free : (at b : ℕ) (rest : List ℕ) → IsFree at spans → edited_from at edits (b ∷ rest) ≡ b ∷ edited_from (suc at) edits rest
    edited-free at b rest h =
        ap (λ xs. (xs ++ unless_covered edits at b) ++ edited_from (suc at) edits rest) (put_in-none at (free-begins 0 at spans rise h))
        ∙ ap (λ t. cond t [] (b ∷ []) ++ edited_from (suc at) edits rest) (covers-is at spans ∙ free-covered at spans h)

    edited-start : (span : PlainSpan) (b : ℕ) (rest : List ℕ) → Contains spans span → edited_from span.start edits (b ∷ rest) ≡ new ++ edited_from (suc span.start) edits rest
    edited-start span b rest there =
        let some = among-rise 0 spans span rise there in
        ap (λ xs. (xs ++ unless_covered edits span.start b) ++ edited_from (suc span.start) edits rest) (put_in-start span there)
        ∙ ap (λ t. (new ++ cond t [] (b ∷ [])) ++ edited_from (suc span.start) edits rest) (covers-is span.start spans ∙ inside-covered span.start spans span there (omega arith) (omega (arith, some.1)))
        ∙ ap (λ xs. xs ++ edited_from (suc span.start) edits rest) (append-nil new)

    edited-inside : (at b : ℕ) (rest : List ℕ) (span : PlainSpan) → Contains spans span → span.start < at → at < span.end → edited_from at edits (b ∷ rest) ≡ edited_from (suc at) edits rest
    edited-inside at b rest span there from to =
        ap (λ xs. (xs ++ unless_covered edits at b) ++ edited_from (suc at) edits rest) (put_in-none at (inside-begins 0 at spans span rise there from to))
        ∙ ap (λ t. cond t [] (b ∷ []) ++ edited_from (suc at) edits rest) (covers-is at spans ∙ inside-covered at spans span there (omega (arith, from)) to)

-- ---- the renamed text

-- a name that is no empty text
pub record IsWord (w : List ℕ) : Type 0 where
  pub first : ℕ
  pub others : List ℕ
  pub is : w ≡ first ∷ others
  pub names : is_nondigit first ≡ true
  pub words : list_all is_word_byte w ≡ true

pub word-of : (w : List ℕ) → is_identifier w ≡ true → IsWord w
word-of [] h = absurd (false≢true h)
word-of (first ∷ others) h =
    let parts = and_parts (is_nondigit first) (list_all is_word_byte others) h in
    record {
      first = first;
      others = others;
      is = refl;
      names = parts.0;
      words = and_from (is_word_byte first) (list_all is_word_byte others) (nondigit-is_word first parts.0) parts.1;
    }

-- what stands for a byte of a text without splices: the new name for the first byte of a span, and nothing for its others
abbrev pub renamed_byte : List ℕ → List PlainSpan → Placed → List Placed
renamed_byte new spans p =
    if begins_in spans p.at then placed_from (moved_behind (length new) spans p.at) new
    else if covered_in spans p.at then [] else placed p.byte (moved_behind (length new) spans p.at) ∷ []

abbrev pub renamed_text : List ℕ → List PlainSpan → List Placed → List Placed
renamed_text new spans text = flat_map (renamed_byte new spans) text

module _ (number : ℕ) (new : List ℕ) (spans : List PlainSpan) (rise : RiseFrom 0 spans) (word : IsWord new) (bytes : List ℕ) (starts : (span : PlainSpan) → Contains spans span → is_nondigit (get_or bytes span.start 0) ≡ true) (within : (span : PlainSpan) → Contains spans span → span.end ≤ length bytes) where
  abbrev changed : ℕ → List ℕ → List ℕ
  changed at rest = edited_from at (map (named number new) spans) rest

  abbrev to : ℕ → ℕ
  to at = moved_behind (length new) spans at

  abbrev image : List Placed → List Placed
  image text = renamed_text new spans text

  at-start : (at : ℕ) → IsOutside at spans → (h : IsInside at spans) → h.span.start ≡ at
  at-start at o h =
      ⊎_elim (λ l. let e = outside-among at spans h.span o h.among l in absurd (omega (arith, e, h.to))) (λ le. omega (arith, le, h.from)) (cases_lt h.span.start at)

  not-at_end : (at : ℕ) → drop at bytes ≡ [] → IsInside at spans → ⊥
  not-at_end at e h =
      let end = within h.span h.among in
      let size : length (drop at bytes) ≡ 0 = ap length e in omega (arith, length-drop at bytes, size, end, h.to)

  -- nothing is put in at the end of the text
  at-end : (at : ℕ) → drop at bytes ≡ [] → changed at [] ≡ []
  at-end at e =
      put_in-none number new spans rise at (free-begins 0 at spans rise (⊎_elim (λ h. h) (λ h. absurd (not-at_end at e h)) (cases-inside at spans)))

  starts-at : (at b : ℕ) (rest : List ℕ) → drop at bytes ≡ b ∷ rest → (span : PlainSpan) → Contains spans span → span.start ≡ at → is_nondigit b ≡ true
  starts-at at b rest e span there is =
      ap is_nondigit (sym (ap (λ k. get_or bytes k 0) is ∙ head-is bytes at b rest e)) ∙ starts span there

  changed-start : (at b : ℕ) (rest : List ℕ) (span : PlainSpan) → Contains spans span → span.start ≡ at → changed at (b ∷ rest) ≡ new ++ changed (suc at) rest
  changed-start at b rest span there is =
      subst (λ k. changed k (b ∷ rest) ≡ new ++ changed (suc k) rest) is (edited-start number new spans rise span b rest there)

  to-end : (at : ℕ) (span : PlainSpan) → Contains spans span → span.start ≡ at → to at + length new ≡ to span.end
  to-end at span there is = ap (λ k. to k + length new) (sym is) ∙ sym (moved-end (length new) 0 spans span rise there)

  same-step : (at b : ℕ) (rest : List ℕ) → drop at bytes ≡ b ∷ rest → IsOutside at spans → IsFree at spans ⊎ IsInside at spans → (IsOutside (suc at) spans → IsSameTo rest (changed (suc at) rest)) → IsSameTo (b ∷ rest) (changed at (b ∷ rest))
  same-step at b rest e o (inl free) others =
      subst (λ text. IsSameTo (b ∷ rest) text) (sym (edited-free number new spans rise at b rest free)) (inl (refl, others (free-next at spans free)))
  same-step at b rest e o (inr h) others =
      let is = at-start at o h in
      let whole : changed at (b ∷ rest) ≡ word.first ∷ (word.others ++ changed (suc at) rest) = changed-start at b rest h.span h.among is ∙ ap (λ w. w ++ changed (suc at) rest) word.is in
      subst (λ text. IsSameTo (b ∷ rest) text) (sym whole) (inr (starts-at at b rest e h.span h.among is, word.names))

  -- the renamed text differs only behind where names begin
  changed-same : (rest : List ℕ) (at : ℕ) → drop at bytes ≡ rest → IsOutside at spans → IsSameTo rest (changed at rest)
  changed-same [] at e o = subst (λ text. IsSameTo [] text) (sym (at-end at e)) tt
  changed-same (b ∷ rest) at e o =
      same-step at b rest e o (cases-inside at spans) (λ next. changed-same rest (suc at) (tail-is bytes at b rest e) next)

  -- the last bytes of the spans stay
  abbrev KeepsEnds : ℕ → List Placed → Type 0
  KeepsEnds at text =
      (span : PlainSpan) → Contains spans span → at < span.end → (last : ℕ) → suc last ≡ span.end → keeps last text ≡ true

  ends-later : (at b : ℕ) (text : List Placed) → KeepsEnds at (placed b at ∷ text) → KeepsEnds (suc at) text
  ends-later at b text h span there l last is =
      let other : (at == last) ≡ false = ne_eqb at last (λ e. absurd (omega (arith, e, is, l))) in
      ap (λ t. t || keeps last text) (sym other) ∙ h span there (omega (arith, l)) last is

  ends-next : (at : ℕ) (text : List Placed) → KeepsEnds at text → KeepsEnds (suc at) text
  ends-next at text h span there l last is = h span there (omega (arith, l)) last is

  -- from an offset in a span to the next
  record InsideStep (at : ℕ) (span : PlainSpan) (b more : ℕ) (rest : List ℕ) : Type 0 where
    later : ℕ
    image_is : image (spliced_from more at (b ∷ rest)) ≡ image (spliced_from later (suc at) rest)
    ends : suc at ≡ span.end → later ≡ 0
    kept : KeepsEnds (suc at) (spliced_from later (suc at) rest)

  inside-step : (at b more : ℕ) (rest : List ℕ) (span : PlainSpan) → Contains spans span → span.start < at → at < span.end → KeepsEnds at (spliced_from more at (b ∷ rest)) → InsideStep at span b more rest
  inside-step at b more rest span there from to_end kept = by (first-step more at b rest) where
    nothing : renamed_byte new spans (placed b at) ≡ []
    nothing =
        cond-false (begins_in spans at) _ _ (inside-begins 0 at spans span rise there from to_end)
        ∙ cond-true (covered_in spans at) [] _ (inside-covered at spans span there (omega (arith, from)) to_end)

    by : FirstStep more at b rest → InsideStep at span b more rest
    by (stays none length_is e) = record {
      later = 0;
      image_is = ap image e ∙ ap (λ xs. xs ++ image (spliced_from 0 (suc at) rest)) nothing;
      ends = λ is. refl;
      kept = ends-later at b (spliced_from 0 (suc at) rest) (subst (KeepsEnds at) e kept);
    }
    by (goes later e) = record {
      later = later;
      image_is = ap image e;
      ends = λ is. absurd (both_ways (keeps at (spliced_from later (suc at) rest)) (keeps-behind rest later (suc at) at (omega arith)) (ap (keeps at) (sym e) ∙ kept span there to_end at is));
      kept = ends-next at (spliced_from later (suc at) rest) (subst (KeepsEnds at) e kept);
    }

  abbrev Outside : List ℕ → Type 0
  Outside rest =
      (more at : ℕ) → drop at bytes ≡ rest → IsOutside at spans → IsQuiet more rest → KeepsEnds at (spliced_from more at rest) → spliced_from more (to at) (changed at rest) ≡ image (spliced_from more at rest)

  abbrev Inside : List ℕ → Type 0
  Inside rest =
      (more at : ℕ) → drop at bytes ≡ rest → (span : PlainSpan) → Contains spans span → span.start < at → at < span.end → KeepsEnds at (spliced_from more at rest) → spliced_from 0 (to span.end) (changed at rest) ≡ image (spliced_from more at rest)

  none-quiet : (rest : List ℕ) → IsQuiet 0 rest
  none-quiet rest j l = absurd (omega (arith, l))

  -- behind the first byte of a span
  go-on : (rest : List ℕ) → Outside rest → Inside rest → (later at : ℕ) → drop (suc at) bytes ≡ rest → (span : PlainSpan) → Contains spans span → span.start ≤ at → at < span.end → (suc at ≡ span.end → later ≡ 0) → KeepsEnds (suc at) (spliced_from later (suc at) rest) → spliced_from 0 (to span.end) (changed (suc at) rest) ≡ image (spliced_from later (suc at) rest)
  go-on rest outside inside later at e span there from to_end last kept =
      ⊎_elim (λ l. inside later (suc at) e span there (omega (arith, from)) l kept)
      (λ le. let is : suc at ≡ span.end = omega (arith, le, to_end) in
      let none = last is in
      let outer : IsOutside (suc at) spans = subst (λ k. IsOutside k spans) (sym is) (end-outside 0 spans span rise there) in
      let start : KeepsEnds (suc at) (spliced_from 0 (suc at) rest) = subst (λ m. KeepsEnds (suc at) (spliced_from m (suc at) rest)) none kept in
      ap (λ k. spliced_from 0 (to k) (changed (suc at) rest)) (sym is)
      ∙ outside 0 (suc at) e outer (none-quiet rest) start
      ∙ ap (λ m. image (spliced_from m (suc at) rest)) (sym none)) (cases_lt (suc at) span.end)

  inside-cons : (b : ℕ) (rest : List ℕ) → Outside rest → Inside rest → Inside (b ∷ rest)
  inside-cons b rest outside inside more at e span there from to_end kept =
      let step = inside-step at b more rest span there from to_end kept in
      ap (spliced_from 0 (to span.end)) (edited-inside number new spans rise at b rest span there from to_end)
      ∙ go-on rest outside inside step.later at (tail-is bytes at b rest e) span there (omega (arith, from)) to_end step.ends step.kept
      ∙ sym step.image_is

  -- at the first byte of a span
  start-cons : (b : ℕ) (rest : List ℕ) → Outside rest → Inside rest → (more at : ℕ) → drop at bytes ≡ b ∷ rest → (span : PlainSpan) → Contains spans span → span.start ≡ at → at < span.end → IsQuiet more (b ∷ rest) → KeepsEnds at (spliced_from more at (b ∷ rest)) → spliced_from more (to at) (changed at (b ∷ rest)) ≡ image (spliced_from more at (b ∷ rest))
  start-cons b rest outside inside (suc more) at e span there is to_end quiet kept =
      absurd (both_ways (is_nondigit b) (quiet 0 (omega arith)) (starts-at at b rest e span there is))
  start-cons b rest outside inside zero at e span there is to_end quiet kept =
      let names = starts-at at b rest e span there is in
      let first : spliced_from 0 at (b ∷ rest) ≡ placed b at ∷ spliced_from 0 (suc at) rest = ap (λ n. unless_splice n (placed b at) (λ more. spliced_from more (suc at) rest)) (no-splice b rest (nondigit-is_not b 92 names refl)) in
      let written : renamed_byte new spans (placed b at) ≡ placed_from (to at) new = cond-true (begins_in spans at) (placed_from (to at) new) _ (subst (λ k. begins_in spans k ≡ true) is (start-begins spans span there)) in
      let later = go-on rest outside inside 0 at (tail-is bytes at b rest e) span there (omega (arith, is)) to_end (λ end. refl) (ends-later at b (spliced_from 0 (suc at) rest) (subst (KeepsEnds at) first kept)) in
      ap (spliced_from 0 (to at)) (changed-start at b rest span there is)
      ∙ spliced-words new (to at) (changed (suc at) rest) word.words
      ∙ ap (λ k. placed_from (to at) new ++ spliced_from 0 k (changed (suc at) rest)) (to-end at span there is)
      ∙ ap (λ xs. placed_from (to at) new ++ xs) later
      ∙ ap (λ xs. xs ++ image (spliced_from 0 (suc at) rest)) (sym written) ∙ ap image (sym first)

  abbrev old_step : ℕ → ℕ → List ℕ → ℕ → List Placed
  old_step at b rest n = unless_splice n (placed b at) (λ more. spliced_from more (suc at) rest)

  abbrev new_step : ℕ → ℕ → List ℕ → ℕ → List Placed
  new_step at b rest n =
      unless_splice n (placed b (to at)) (λ more. spliced_from more (suc (to at)) (changed (suc at) rest))

  -- at a byte that no span holds
  free-cons : (b : ℕ) (rest : List ℕ) → Outside rest → (more at : ℕ) → drop at bytes ≡ b ∷ rest → IsFree at spans → IsQuiet more (b ∷ rest) → KeepsEnds at (spliced_from more at (b ∷ rest)) → spliced_from more (to at) (b ∷ changed (suc at) rest) ≡ image (spliced_from more at (b ∷ rest))
  free-cons b rest outside (suc more) at e free quiet kept =
      ap (λ k. spliced_from more k (changed (suc at) rest)) (sym (moved-next (length new) 0 at spans rise free))
      ∙ outside more (suc at) (tail-is bytes at b rest e) (free-next at spans free) (λ j l. quiet (suc j) (omega (arith, l))) (ends-next at (spliced_from more (suc at) rest) kept)
  free-cons b rest outside zero at e free quiet kept = by (splice_length (b ∷ rest)) refl where
    next : suc (to at) ≡ to (suc at)
    next = sym (moved-next (length new) 0 at spans rise free)

    there : drop (suc at) bytes ≡ rest
    there = tail-is bytes at b rest e

    outer : IsOutside (suc at) spans
    outer = free-next at spans free

    written : renamed_byte new spans (placed b at) ≡ placed b (to at) ∷ []
    written =
        cond-false (begins_in spans at) _ _ (free-begins 0 at spans rise free) ∙ cond-false (covered_in spans at) [] _ (free-covered at spans free)

    same : splice_length (b ∷ changed (suc at) rest) ≡ splice_length (b ∷ rest)
    same = sym (splice-same b rest (changed (suc at) rest) (changed-same rest (suc at) there outer))

    by : (n : ℕ) → splice_length (b ∷ rest) ≡ n → spliced_from 0 (to at) (b ∷ changed (suc at) rest) ≡ image (spliced_from 0 at (b ∷ rest))
    by zero is =
        let later = outside 0 (suc at) there outer (none-quiet rest) (ends-later at b (spliced_from 0 (suc at) rest) (subst (KeepsEnds at) (ap (old_step at b rest) is) kept)) in
        ap (new_step at b rest) (same ∙ is) ∙ ap (λ k. placed b (to at) ∷ spliced_from 0 k (changed (suc at) rest)) next
        ∙ ap (λ xs. placed b (to at) ∷ xs) later
        ∙ ap (λ xs. xs ++ image (spliced_from 0 (suc at) rest)) (sym written) ∙ ap (λ n. image (old_step at b rest n)) (sym is)
    by (suc more) is =
        let later = outside more (suc at) there outer (splice-quiet b rest more is) (ends-next at (spliced_from more (suc at) rest) (subst (KeepsEnds at) (ap (old_step at b rest) is) kept)) in
        ap (new_step at b rest) (same ∙ is) ∙ ap (λ k. spliced_from more k (changed (suc at) rest)) next ∙ later ∙ ap (λ n. image (old_step at b rest n)) (sym is)

  outside-cons : (b : ℕ) (rest : List ℕ) → Outside rest → Inside rest → (more at : ℕ) → drop at bytes ≡ b ∷ rest → IsOutside at spans → IsQuiet more (b ∷ rest) → KeepsEnds at (spliced_from more at (b ∷ rest)) → IsFree at spans ⊎ IsInside at spans → spliced_from more (to at) (changed at (b ∷ rest)) ≡ image (spliced_from more at (b ∷ rest))
  outside-cons b rest outside inside more at e o quiet kept (inl free) =
      ap (spliced_from more (to at)) (edited-free number new spans rise at b rest free)
      ∙ free-cons b rest outside more at e free quiet kept
  outside-cons b rest outside inside more at e o quiet kept (inr h) =
      start-cons b rest outside inside more at e h.span h.among (at-start at o h) h.to quiet kept

  mutual
    outside-text : (rest : List ℕ) → Outside rest
    outside-text [] = λ more at e o quiet kept. ap (spliced_from more (to at)) (at-end at e)
    outside-text (b ∷ rest) = λ more at e o quiet kept.
        outside-cons b rest (outside-text rest) (inside-text rest) more at e o quiet kept (cases-inside at spans)

    inside-text : (rest : List ℕ) → Inside rest
    inside-text [] = λ more at e span there from to_end kept.
        absurd (not-at_end at e (record { span = span; among = there; from = omega (arith, from); to = to_end }))
    inside-text (b ∷ rest) = λ more at e span there from to_end kept.
        inside-cons b rest (outside-text rest) (inside-text rest) more at e span there from to_end kept

  -- the renamed text without its splices is the text without its splices, renamed
  pub text-renamed : KeepsEnds 0 (spliced bytes) → spliced (changed 0 bytes) ≡ image (spliced bytes)
  text-renamed kept =
      let start : to 0 ≡ 0 = moved-before (length new) 0 0 spans rise (omega arith) in
      ap (λ k. spliced_from 0 k (changed 0 bytes)) (sym start)
      ∙ outside-text bytes 0 0 refl (outside-below 0 0 spans rise (omega arith)) (none-quiet bytes) kept

  -- ---- its length

  abbrev OutsideLength : List ℕ → Type 0
  OutsideLength rest =
      (at : ℕ) → drop at bytes ≡ rest → IsOutside at spans → to (at + length rest) ≡ to at + length (changed at rest)

  abbrev InsideLength : List ℕ → Type 0
  InsideLength rest =
      (at : ℕ) → drop at bytes ≡ rest → (span : PlainSpan) → Contains spans span → span.start < at → at < span.end → to (at + length rest) ≡ to span.end + length (changed at rest)

  length-on : (rest : List ℕ) → OutsideLength rest → InsideLength rest → (at : ℕ) → drop (suc at) bytes ≡ rest → (span : PlainSpan) → Contains spans span → span.start ≤ at → at < span.end → to (suc at + length rest) ≡ to span.end + length (changed (suc at) rest)
  length-on rest outside inside at e span there from to_end =
      ⊎_elim (λ l. inside (suc at) e span there (omega (arith, from)) l)
      (λ le. let is : suc at ≡ span.end = omega (arith, le, to_end) in
      let outer : IsOutside (suc at) spans = subst (λ k. IsOutside k spans) (sym is) (end-outside 0 spans span rise there) in
      outside (suc at) e outer ∙ ap (λ k. to k + length (changed (suc at) rest)) is) (cases_lt (suc at) span.end)

  length-cons : (b : ℕ) (rest : List ℕ) → OutsideLength rest → InsideLength rest → (at : ℕ) → drop at bytes ≡ b ∷ rest → IsOutside at spans → IsFree at spans ⊎ IsInside at spans → to (suc at + length rest) ≡ to at + length (changed at (b ∷ rest))
  length-cons b rest outside inside at e o (inl free) =
      let size : length (changed at (b ∷ rest)) ≡ suc (length (changed (suc at) rest)) = ap length (edited-free number new spans rise at b rest free) in
      let next = moved-next (length new) 0 at spans rise free in
      let later = outside (suc at) (tail-is bytes at b rest e) (free-next at spans free) in omega (arith, size, next, later)
  length-cons b rest outside inside at e o (inr h) =
      let is = at-start at o h in
      let size : length (changed at (b ∷ rest)) ≡ length new + length (changed (suc at) rest) = ap length (changed-start at b rest h.span h.among is) ∙ length-append new (changed (suc at) rest) in
      let later = length-on rest outside inside at (tail-is bytes at b rest e) h.span h.among h.from h.to in
      let moves = to-end at h.span h.among is in omega (arith, size, later, moves)

  next-at : (at : ℕ) (b : ℕ) (rest : List ℕ) → to (at + length (b ∷ rest)) ≡ to (suc at + length rest)
  next-at at b rest = let e : at + length (b ∷ rest) ≡ suc at + length rest = omega arith in ap to e

  mutual
    outside-length : (rest : List ℕ) → OutsideLength rest
    outside-length [] = λ at e o.
        let here : at + 0 ≡ at = omega arith in
        let size : length (changed at []) ≡ 0 = ap length (at-end at e) in
        let same = ap to here in omega (arith, size, same)
    outside-length (b ∷ rest) = λ at e o.
        next-at at b rest ∙ length-cons b rest (outside-length rest) (inside-length rest) at e o (cases-inside at spans)

    inside-length : (rest : List ℕ) → InsideLength rest
    inside-length [] = λ at e span there from to_end.
        absurd (not-at_end at e (record { span = span; among = there; from = omega (arith, from); to = to_end }))
    inside-length (b ∷ rest) = λ at e span there from to_end.
        next-at at b rest
        ∙ length-on rest (outside-length rest) (inside-length rest) at (tail-is bytes at b rest e) span there (omega (arith, from)) to_end
        ∙ ap (λ text. to span.end + length text) (sym (edited-inside number new spans rise at b rest span there from to_end))

  -- the end of the text moves to the end of the renamed one
  pub length-renamed : to (length bytes) ≡ length (changed 0 bytes)
  length-renamed =
      let start : to 0 ≡ 0 = moved-before (length new) 0 0 spans rise (omega arith) in
      let whole = outside-length bytes 0 refl (outside-below 0 0 spans rise (omega arith)) in
      let same : to (0 + length bytes) ≡ to (length bytes) = ap to (let e : 0 + length bytes ≡ length bytes = omega arith in e) in
      omega (arith, start, whole, same)
