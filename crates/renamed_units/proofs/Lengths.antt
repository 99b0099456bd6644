-- The end of a file moves with its length.
use Rattle.std.proofs.Common.{◌≡◌, ℕ, suc, ◌+◌, ◌-◌, ◌<◌, ◌≤◌, Bool, true, false, ◌&&◌, ◌||◌, not, cond, List, [], ◌∷◌, ◌++◌, map, length, refl, ap, ◌∙◌, subst, inl, inr, arith, length-append}
use Rattle.std.specs.Prelude.{nat_le, nat_lt, filter}
use Rattle.std.specs.List.{AllByRecursion, list_any}
use Rattle.std.proofs.lemmas.Bool.{lt-ltb, le-ltb, lt-leb, le-leb, ne_eqb, eq-eqb, cases_lt}
use Rattle.text_edits.specs.Span.{PlainSpan}
use Rattle.file_edits.specs.Edits.{PlainEdit, is_empty, starts_at, covers, texts, put_in, unless_covered, edited_from, edited}
use Rattle.renamings.specs.Renamings.{moved_behind}
use Rattle.renamings.proofs.SpanLemmas.{RiseFrom}

-- edits that put in nothing at an offset
abbrev StartElsewhere : ℕ → List PlainEdit → Type 0
StartElsewhere at edits = AllByRecursion (λ e. starts_at at e ≡ false) edits

and-false : (a b : Bool) → b ≡ false → (a && b) ≡ false
and-false true b e = e
and-false false b e = refl

filter-none : (p : PlainEdit → Bool) (at : ℕ) (edits : List PlainEdit) → ((e : PlainEdit) → starts_at at e ≡ false → p e ≡ false) → StartElsewhere at edits → filter p edits ≡ []
filter-none p at [] k s = refl
filter-none p at (e ∷ edits) k s = rw (k e s.0) (filter-none p at edits k s.1)

put-none : (at : ℕ) (edits : List PlainEdit) → StartElsewhere at edits → put_in edits at ≡ []
put-none at edits s =
    rw (
      filter-none (λ e. is_empty e && starts_at at e) at edits (λ e h. and-false (is_empty e) (starts_at at e) h) s,
      filter-none (λ e. not (is_empty e) && starts_at at e) at edits (λ e h. and-false (not (is_empty e)) (starts_at at e) h) s,
    ) refl

filter-skip : (p : PlainEdit → Bool) (e : PlainEdit) (edits : List PlainEdit) → p e ≡ false → filter p (e ∷ edits) ≡ filter p edits
filter-skip p e edits h = rw h refl

filter-take : (p : PlainEdit → Bool) (e : PlainEdit) (edits : List PlainEdit) → p e ≡ true → filter p (e ∷ edits) ≡ e ∷ filter p edits
filter-take p e edits h = rw h refl

abbrev empty_at : ℕ → PlainEdit → Bool
empty_at at e = is_empty e && starts_at at e

abbrev full_at : ℕ → PlainEdit → Bool
full_at at e = not (is_empty e) && starts_at at e

put-skip : (at : ℕ) (e : PlainEdit) (edits : List PlainEdit) → starts_at at e ≡ false → put_in (e ∷ edits) at ≡ put_in edits at
put-skip at e edits h =
    let first = filter-skip (empty_at at) e edits (and-false (is_empty e) (starts_at at e) h) in
    let second = filter-skip (full_at at) e edits (and-false (not (is_empty e)) (starts_at at e) h) in
    cc

append-nil : (xs : List ℕ) → xs ++ [] ≡ xs
append-nil [] = refl
append-nil (x ∷ xs) = ap (λ l. x ∷ l) (append-nil xs)

put-first : (at : ℕ) (e : PlainEdit) (edits : List PlainEdit) → is_empty e ≡ false → starts_at at e ≡ true → StartElsewhere at edits → put_in (e ∷ edits) at ≡ e.text
put-first at e edits some h s =
    let not_empty : empty_at at e ≡ false = ap (λ (b : Bool). b && starts_at at e) some in
    let full : full_at at e ≡ true = ap (λ (b : Bool). not b && starts_at at e) some ∙ h in
    let first : filter (empty_at at) (e ∷ edits) ≡ [] = filter-skip (empty_at at) e edits not_empty ∙ filter-none (empty_at at) at edits (λ d k. and-false (is_empty d) (starts_at at d) k) s in
    let second : filter (full_at at) (e ∷ edits) ≡ e ∷ [] = filter-take (full_at at) e edits full ∙ ap (λ (l : List PlainEdit). e ∷ l) (filter-none (full_at at) at edits (λ d k. and-false (not (is_empty d)) (starts_at at d) k) s) in
    ap (λ (l : List PlainEdit). texts l ++ texts (filter (full_at at) (e ∷ edits))) first ∙ ap texts second ∙ append-nil e.text

pub moved-over : (new : ℕ) (s : PlainSpan) (spans : List PlainSpan) (at : ℕ) → s.start < at → moved_behind new (s ∷ spans) at ≡ (moved_behind new spans at + new) - (s.end - s.start)
moved-over new s spans at h = rw (lt-ltb s.start at h) refl

-- ---- the edits of spans

module _ (file : ℕ) (new : List ℕ) where
  abbrev edit : PlainSpan → PlainEdit
  edit span = record { file = file; span = span; text = new }

  abbrev edits_of_spans : List PlainSpan → List PlainEdit
  edits_of_spans spans = map edit spans

  starts-ahead : (at low : ℕ) (spans : List PlainSpan) → RiseFrom low spans → at < low → StartElsewhere at (edits_of_spans spans)
  starts-ahead at low [] c h = tt
  starts-ahead at low (s ∷ spans) c h =
      let first = c.0 in
      (ne_eqb s.start at (λ e. absurd (omega (arith, e, first, h))), starts-ahead at s.end spans c.2 (omega (arith, c.0, c.1, h)))

  covers-ahead : (at low : ℕ) (spans : List PlainSpan) → RiseFrom low spans → at < low → list_any (covers at) (edits_of_spans spans) ≡ false
  covers-ahead at low [] c h = refl
  covers-ahead at low (s ∷ spans) c h =
      let first : covers at (edit s) ≡ false = ap (λ (b : Bool). b && nat_lt at s.end) (lt-leb s.start at (omega (arith, c.0, h))) in
      let rest = covers-ahead at s.end spans c.2 (omega (arith, c.0, c.1, h)) in
      rw first rest

  -- a byte before all spans stays
  step-ahead : (at low byte : ℕ) (rest : List ℕ) (spans : List PlainSpan) → RiseFrom low spans → at < low → edited_from at (edits_of_spans spans) (byte ∷ rest) ≡ byte ∷ edited_from (suc at) (edits_of_spans spans) rest
  step-ahead at low byte rest spans c h =
      rw (put-none at (edits_of_spans spans) (starts-ahead at low spans c h), covers-ahead at low spans c h) refl

  -- behind a span its edit does nothing
  drop-edit : (at : ℕ) (s : PlainSpan) (edits : List PlainEdit) (bytes : List ℕ) → s.start < s.end → s.end ≤ at → edited_from at (edit s ∷ edits) bytes ≡ edited_from at edits bytes
  drop-edit at s edits [] some h = put-skip at (edit s) edits (ne_eqb s.start at (λ e. absurd (omega (arith, e, some, h))))
  drop-edit at s edits (byte ∷ rest) some h =
      let put = put-skip at (edit s) edits (ne_eqb s.start at (λ e. absurd (omega (arith, e, some, h)))) in
      let uncovered : covers at (edit s) ≡ false = ap (λ (b : Bool). nat_le s.start at && b) (le-ltb at s.end h) ∙ and-false (nat_le s.start at) false refl in
      let later = drop-edit (suc at) s edits rest some (omega (arith, h)) in
      ap (λ (l : List ℕ). l ++ unless_covered (edit s ∷ edits) at byte ++ edited_from (suc at) (edit s ∷ edits) rest) put
      ∙ ap (λ (b : Bool). put_in edits at ++ cond (b || list_any (covers at) edits) [] (byte ∷ []) ++ edited_from (suc at) (edit s ∷ edits) rest) uncovered
      ∙ ap (λ (l : List ℕ). put_in edits at ++ unless_covered edits at byte ++ l) later

  -- where a span begins, the new text stands; where it goes on, nothing does
  step-inside : (at byte : ℕ) (rest : List ℕ) (s : PlainSpan) (spans : List PlainSpan) → RiseFrom s.end spans → s.start ≤ at → at < s.end → edited_from at (edits_of_spans (s ∷ spans)) (byte ∷ rest) ≡ put_in (edits_of_spans (s ∷ spans)) at ++ edited_from (suc at) (edits_of_spans (s ∷ spans)) rest
  step-inside at byte rest s spans c from to =
      let covered : covers at (edit s) ≡ true = ap (λ (b : Bool). b && nat_lt at s.end) (le-leb s.start at from) ∙ lt-ltb at s.end to in
      ap (λ (b : Bool). put_in (edits_of_spans (s ∷ spans)) at ++ cond (b || list_any (covers at) (edits_of_spans spans)) [] (byte ∷ []) ++ edited_from (suc at) (edits_of_spans (s ∷ spans)) rest) covered
      ∙ ap (λ (l : List ℕ). l ++ edited_from (suc at) (edits_of_spans (s ∷ spans)) rest) (append-nil (put_in (edits_of_spans (s ∷ spans)) at))

  put-start : (s : PlainSpan) (spans : List PlainSpan) → RiseFrom s.start (s ∷ spans) → put_in (edits_of_spans (s ∷ spans)) s.start ≡ new
  put-start s spans c =
      put-first s.start (edit s) (edits_of_spans spans) (ne_eqb s.start s.end (λ e. absurd (omega (arith, e, c.1)))) (eq-eqb s.start s.start refl)
      (starts-ahead s.start s.end spans c.2 c.1)

  put-inside : (at : ℕ) (s : PlainSpan) (spans : List PlainSpan) → RiseFrom s.end spans → s.start < at → at < s.end → put_in (edits_of_spans (s ∷ spans)) at ≡ []
  put-inside at s spans c from to =
      put-none at (edits_of_spans (s ∷ spans)) (ne_eqb s.start at (λ e. absurd (omega (arith, e, from))), starts-ahead at s.end spans c to)

  -- ---- the length

  abbrev AreBefore : ℕ → List PlainSpan → Type 0
  AreBefore end spans = AllByRecursion (λ (s : PlainSpan). s.end ≤ end) spans

  before-same : (a b : ℕ) (spans : List PlainSpan) → a ≡ b → AreBefore a spans → AreBefore b spans
  before-same a b spans e w = subst (λ (n : ℕ). AreBefore n spans) e w

  abbrev IsSized : List PlainSpan → ℕ → List ℕ → Type 0
  IsSized spans at bytes = at + length (edited_from at (edits_of_spans spans) bytes) ≡ moved_behind (length new) spans (at + length bytes)

  none-sized : (at : ℕ) (bytes : List ℕ) → IsSized [] at bytes
  none-sized at [] = refl
  none-sized at (byte ∷ rest) = let later = none-sized (suc at) rest in omega (arith, later)

  module _ (s : PlainSpan) (spans : List PlainSpan) (later : (at : ℕ) (bytes : List ℕ) → RiseFrom at spans → AreBefore (at + length bytes) spans → IsSized spans at bytes) (some : s.start < s.end) (chain : RiseFrom s.end spans) where
    inside-sized : (bytes : List ℕ) (at : ℕ) → s.start < at → at ≤ s.end → s.end ≤ at + length bytes → AreBefore (at + length bytes) spans → length (edited_from at (edits_of_spans (s ∷ spans)) bytes) + s.end ≡ moved_behind (length new) spans (at + length bytes)
    inside-sized [] at from to within w =
        let end : s.end ≡ at = omega (arith, to, within) in
        let e = later at [] (subst (λ (n : ℕ). RiseFrom n spans) end chain) w in
        let d = ap (λ (l : List ℕ). length l) (drop-edit at s (edits_of_spans spans) [] some (omega (arith, end))) in
        omega (arith, d, e, end)
    inside-sized (byte ∷ rest) at from to within w = elim (cases_lt at s.end) as (λ x. length (edited_from at (edits_of_spans (s ∷ spans)) (byte ∷ rest)) + s.end ≡ moved_behind (length new) spans (at + length (byte ∷ rest))) [
      | inl less ↦
          let e = inside-sized rest (suc at) (omega (arith, from)) (omega (arith, less)) (omega (arith, within)) (before-same (at + length (byte ∷ rest)) (suc at + length rest) spans (omega arith) w) in
          let step = ap (λ (l : List ℕ). length l) (step-inside at byte rest s spans chain (omega (arith, from)) less ∙ ap (λ (l : List ℕ). l ++ edited_from (suc at) (edits_of_spans (s ∷ spans)) rest) (put-inside at s spans chain from less)) in
          let place : moved_behind (length new) spans (suc at + length rest) ≡ moved_behind (length new) spans (at + length (byte ∷ rest)) = ap (moved_behind (length new) spans) (omega arith) in
          omega (arith, e, step, place)
      | inr over ↦
          let end : s.end ≡ at = omega (arith, to, over) in
          let e = later at (byte ∷ rest) (subst (λ (n : ℕ). RiseFrom n spans) end chain) w in
          let d = ap (λ (l : List ℕ). length l) (drop-edit at s (edits_of_spans spans) (byte ∷ rest) some (omega (arith, end))) in
          omega (arith, d, e, end)
    ]

    before-sized : (bytes : List ℕ) (at : ℕ) → at ≤ s.start → s.end ≤ at + length bytes → AreBefore (at + length bytes) spans → IsSized (s ∷ spans) at bytes
    before-sized [] at h within w = absurd (omega (arith, h, within, some))
    before-sized (byte ∷ rest) at h within w = elim (cases_lt at s.start) as (λ x. IsSized (s ∷ spans) at (byte ∷ rest)) [
      | inl less ↦
          let e = before-sized rest (suc at) (omega (arith, less)) (omega (arith, within)) (before-same (at + length (byte ∷ rest)) (suc at + length rest) spans (omega arith) w) in
          let step = ap (λ (l : List ℕ). length l) (step-ahead at (suc at) byte rest (s ∷ spans) (omega (arith, less), some, chain) (omega arith)) in
          let place : moved_behind (length new) (s ∷ spans) (suc at + length rest) ≡ moved_behind (length new) (s ∷ spans) (at + length (byte ∷ rest)) = ap (moved_behind (length new) (s ∷ spans)) (omega arith) in
          omega (arith, e, step, place)
      | inr over ↦
          let here : s.start ≡ at = omega (arith, h, over) in
          let e = inside-sized rest (suc at) (omega (arith, here)) (omega (arith, here, some)) (omega (arith, within)) (before-same (at + length (byte ∷ rest)) (suc at + length rest) spans (omega arith) w) in
          let put : put_in (edits_of_spans (s ∷ spans)) at ≡ new = subst (λ (n : ℕ). put_in (edits_of_spans (s ∷ spans)) n ≡ new) here (put-start s spans (omega arith, some, chain)) in
          let step = ap (λ (l : List ℕ). length l) (step-inside at byte rest s spans chain (omega (arith, here)) (omega (arith, here, some)) ∙ ap (λ (l : List ℕ). l ++ edited_from (suc at) (edits_of_spans (s ∷ spans)) rest) put) in
          let joined = length-append new (edited_from (suc at) (edits_of_spans (s ∷ spans)) rest) in
          let place : moved_behind (length new) spans (suc at + length rest) ≡ moved_behind (length new) spans (at + length (byte ∷ rest)) = ap (moved_behind (length new) spans) (omega arith) in
          let over_it = moved-over (length new) s spans (at + length (byte ∷ rest)) (omega (arith, within, some)) in
          omega (arith, e, step, joined, place, over_it, here, some)
    ]

  sized : (spans : List PlainSpan) (at : ℕ) (bytes : List ℕ) → RiseFrom at spans → AreBefore (at + length bytes) spans → IsSized spans at bytes
  sized [] at bytes c w = none-sized at bytes
  sized (s ∷ spans) at bytes c w = before-sized s spans (sized spans) c.1 c.2 bytes at c.0 w.0 w.1

  pub length-moves : (spans : List PlainSpan) (bytes : List ℕ) → RiseFrom 0 spans → AreBefore (length bytes) spans → length (edited (edits_of_spans spans) bytes) ≡ moved_behind (length new) spans (length bytes)
  length-moves spans bytes c w = let e = sized spans 0 bytes c (before-same (length bytes) (0 + length bytes) spans (omega arith) w) in let z : moved_behind (length new) spans (0 + length bytes) ≡ moved_behind (length new) spans (length bytes) = ap (moved_behind (length new) spans) (omega arith) in omega (arith, e, z)
