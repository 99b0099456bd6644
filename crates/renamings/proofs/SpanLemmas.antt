-- Spans in the order of a text, and where places move to when names of another length stand there.
use Rattle.std.proofs.Common.{◌≡◌, ℕ, zero, suc, ◌+◌, ◌-◌, ◌<◌, ◌≤◌, ◌==◌, Bool, true, false, ◌&&◌, List, [], ◌∷◌, refl, sym, ap, subst, ◌∙◌, ◌⊎◌, inl, inr, ⊎_elim, arith}
use Rattle.std.specs.Prelude.{⊤, nat_le, nat_lt, Contains}
use Rattle.std.specs.List.{list_any}
use Rattle.std.proofs.lemmas.Bool.{cases_lt, lt-ltb, le-ltb, le-leb, lt-leb, eq-eqb, ne_eqb, cond-true, cond-false, and_from, and_left, and_right, or_from, or_left, or_right}
use Rattle.text_edits.specs.Span.{PlainSpan}
use Rattle.renamings.specs.Renamings.{moved_behind}

-- the spans hold bytes, in the order of the text from an offset on, and none within another
abbrev pub RiseFrom : ℕ → List PlainSpan → Type 0
RiseFrom low [] = ⊤
RiseFrom low (span ∷ spans) = (low ≤ span.start) × (span.start < span.end) × RiseFrom span.end spans

-- the offset isn't strictly inside a span
abbrev pub IsOutside : ℕ → List PlainSpan → Type 0
IsOutside at [] = ⊤
IsOutside at (span ∷ spans) = (span.start < at → span.end ≤ at) × IsOutside at spans

-- no span holds the byte at the offset
abbrev pub IsFree : ℕ → List PlainSpan → Type 0
IsFree at [] = ⊤
IsFree at (span ∷ spans) = (span.start ≤ at → span.end ≤ at) × IsFree at spans

pub free-outside : (at : ℕ) (spans : List PlainSpan) → IsFree at spans → IsOutside at spans
free-outside at [] h = tt
free-outside at (span ∷ spans) h = ((λ l. h.0 (omega (arith, l))), free-outside at spans h.1)

pub free-next : (at : ℕ) (spans : List PlainSpan) → IsFree at spans → IsOutside (suc at) spans
free-next at [] h = tt
free-next at (span ∷ spans) h = ((λ l. let e = h.0 (omega (arith, l)) in omega (arith, e)), free-next at spans h.1)

pub free-below : (low at : ℕ) (spans : List PlainSpan) → RiseFrom low spans → at < low → IsFree at spans
free-below low at [] h l = tt
free-below low at (span ∷ spans) h l =
    ((λ le. absurd (omega (arith, le, h.0, l))), free-below span.end at spans h.2 (omega (arith, h.0, h.1, l)))

pub outside-below : (low at : ℕ) (spans : List PlainSpan) → RiseFrom low spans → at ≤ low → IsOutside at spans
outside-below low at [] h l = tt
outside-below low at (span ∷ spans) h l =
    ((λ less. absurd (omega (arith, less, h.0, l))), outside-below span.end at spans h.2 (omega (arith, h.0, h.1, l)))

-- a span among them
pub among-rise : (low : ℕ) (spans : List PlainSpan) (span : PlainSpan) → RiseFrom low spans → Contains spans span → (low ≤ span.start) × (span.start < span.end)
among-rise low [] span h (k, l, e) = absurd (omega (arith, l))
among-rise low (first ∷ spans) span h (zero, l, e) = subst (λ s. (low ≤ s.start) × (s.start < s.end)) e (h.0, h.1)
among-rise low (first ∷ spans) span h (suc k, l, e) =
    let later = among-rise first.end spans span h.2 (k, omega (arith, l), e) in (omega (arith, later.0, h.0, h.1), later.1)

-- both ends of a span are outside all
pub start-outside : (low : ℕ) (spans : List PlainSpan) (span : PlainSpan) → RiseFrom low spans → Contains spans span → IsOutside span.start spans
start-outside low [] span h (k, l, e) = absurd (omega (arith, l))
start-outside low (first ∷ spans) span h (zero, l, e) =
    subst (λ s. IsOutside s.start (first ∷ spans)) e ((λ less. absurd (omega (arith, less))), outside-below first.end first.start spans h.2 (omega (arith, h.1)))
start-outside low (first ∷ spans) span h (suc k, l, e) =
    let later = among-rise first.end spans span h.2 (k, omega (arith, l), e) in
    ((λ less. later.0), start-outside first.end spans span h.2 (k, omega (arith, l), e))

pub end-outside : (low : ℕ) (spans : List PlainSpan) (span : PlainSpan) → RiseFrom low spans → Contains spans span → IsOutside span.end spans
end-outside low [] span h (k, l, e) = absurd (omega (arith, l))
end-outside low (first ∷ spans) span h (zero, l, e) =
    subst (λ s. IsOutside s.end (first ∷ spans)) e ((λ less. omega arith), outside-below first.end first.end spans h.2 (omega arith))
end-outside low (first ∷ spans) span h (suc k, l, e) =
    let later = among-rise first.end spans span h.2 (k, omega (arith, l), e) in
    ((λ less. omega (arith, later.0, later.1)), end-outside first.end spans span h.2 (k, omega (arith, l), e))

-- where an offset is
pub record IsInside (at : ℕ) (spans : List PlainSpan) : Type 0 where
  pub span : PlainSpan
  pub among : Contains spans span
  pub from : span.start ≤ at
  pub to : at < span.end

inside-later : (at : ℕ) (first : PlainSpan) (spans : List PlainSpan) → IsInside at spans → IsInside at (first ∷ spans)
inside-later at first spans h = record {
  span = h.span;
  among = (suc h.among.0, omega (arith, h.among.1), h.among.2);
  from = h.from;
  to = h.to;
}

pub cases-inside : (at : ℕ) (spans : List PlainSpan) → IsFree at spans ⊎ IsInside at spans
cases-inside at [] = inl tt
cases-inside at (span ∷ spans) = by (cases_lt at span.start) (cases_lt at span.end) (cases-inside at spans) where
  by : (at < span.start) ⊎ (span.start ≤ at) → (at < span.end) ⊎ (span.end ≤ at) → IsFree at spans ⊎ IsInside at spans → IsFree at (span ∷ spans) ⊎ IsInside at (span ∷ spans)
  by start end (inr h) = inr (inside-later at span spans h)
  by (inl l) end (inl h) = inl ((λ le. absurd (omega (arith, le, l))), h)
  by (inr l) (inr e) (inl h) = inl ((λ le. e), h)
  by (inr l) (inl e) (inl h) = inr (record { span = span; among = (0, omega arith, refl); from = l; to = e })

pub outside-among : (at : ℕ) (spans : List PlainSpan) (span : PlainSpan) → IsOutside at spans → Contains spans span → span.start < at → span.end ≤ at
outside-among at [] span o (k, l, e) = absurd (omega (arith, l))
outside-among at (first ∷ spans) span o (zero, l, e) = subst (λ s. s.start < at → s.end ≤ at) e o.0
outside-among at (first ∷ spans) span o (suc k, l, e) = outside-among at spans span o.1 (k, omega (arith, l), e)

-- whether a span begins at an offset, and whether one holds its byte
abbrev pub begins_in : List PlainSpan → ℕ → Bool
begins_in spans at = list_any (λ span. span.start == at) spans

abbrev pub covered_in : List PlainSpan → ℕ → Bool
covered_in spans at = list_any (λ span. nat_le span.start at && nat_lt at span.end) spans

pub free-begins : (low at : ℕ) (spans : List PlainSpan) → RiseFrom low spans → IsFree at spans → begins_in spans at ≡ false
free-begins low at [] r h = refl
free-begins low at (span ∷ spans) r h =
    or_from (span.start == at) (begins_in spans at) (ne_eqb span.start at (λ e. let le = h.0 (omega (arith, e)) in absurd (omega (arith, e, le, r.1)))) (free-begins span.end at spans r.2 h.1)

pub free-covered : (at : ℕ) (spans : List PlainSpan) → IsFree at spans → covered_in spans at ≡ false
free-covered at [] h = refl
free-covered at (span ∷ spans) h =
    or_from (nat_le span.start at && nat_lt at span.end) (covered_in spans at)
    (⊎_elim (λ l. and_left (nat_le span.start at) (nat_lt at span.end) (lt-leb span.start at l)) (λ le. let e = h.0 le in and_right (nat_le span.start at) (nat_lt at span.end) (le-ltb at span.end e)) (cases_lt at span.start)) (free-covered at spans h.1)

pub start-begins : (spans : List PlainSpan) (span : PlainSpan) → Contains spans span → begins_in spans span.start ≡ true
start-begins [] span (k, l, e) = absurd (omega (arith, l))
start-begins (first ∷ spans) span (zero, l, e) =
    or_left (first.start == span.start) (begins_in spans span.start) (eq-eqb first.start span.start (ap (λ s. s.start) e))
start-begins (first ∷ spans) span (suc k, l, e) =
    or_right (first.start == span.start) (begins_in spans span.start) (start-begins spans span (k, omega (arith, l), e))

pub inside-covered : (at : ℕ) (spans : List PlainSpan) (span : PlainSpan) → Contains spans span → span.start ≤ at → at < span.end → covered_in spans at ≡ true
inside-covered at [] span (k, l, e) from to = absurd (omega (arith, l))
inside-covered at (first ∷ spans) span (zero, l, e) from to =
    or_left (nat_le first.start at && nat_lt at first.end) (covered_in spans at)
    (subst (λ s. (nat_le s.start at && nat_lt at s.end) ≡ true) (sym e) (and_from (nat_le span.start at) (nat_lt at span.end) (le-leb span.start at from) (lt-ltb at span.end to)))
inside-covered at (first ∷ spans) span (suc k, l, e) from to =
    or_right (nat_le first.start at && nat_lt at first.end) (covered_in spans at) (inside-covered at spans span (k, omega (arith, l), e) from to)

-- no span begins strictly inside one
pub inside-begins : (low at : ℕ) (spans : List PlainSpan) (span : PlainSpan) → RiseFrom low spans → Contains spans span → span.start < at → at < span.end → begins_in spans at ≡ false
inside-begins low at [] span r (k, l, e) from to = absurd (omega (arith, l))
inside-begins low at (first ∷ spans) span r (zero, l, e) from to =
    let start : first.start ≡ span.start = ap (λ s. s.start) e in
    let end : first.end ≡ span.end = ap (λ s. s.end) e in
    or_from (first.start == at) (begins_in spans at) (ne_eqb first.start at (λ is. omega (arith, is, start, from)))
    (free-begins first.end at spans r.2 (free-below first.end at spans r.2 (omega (arith, end, to))))
inside-begins low at (first ∷ spans) span r (suc k, l, e) from to =
    let later = among-rise first.end spans span r.2 (k, omega (arith, l), e) in
    or_from (first.start == at) (begins_in spans at) (ne_eqb first.start at (λ is. omega (arith, is, later.0, r.1, from)))
    (inside-begins first.end at spans span r.2 (k, omega (arith, l), e) from to)

-- two spans with one byte are one
pub inside-one : (low at : ℕ) (spans : List PlainSpan) (a b : PlainSpan) → RiseFrom low spans → Contains spans a → Contains spans b → a.start ≤ at → at < a.end → b.start ≤ at → at < b.end → a ≡ b
inside-one low at [] a b r (k, l, e) cb la ma lb mb = absurd (omega (arith, l))
inside-one low at (first ∷ spans) a b r (zero, l, e) (zero, m, f) la ma lb mb = sym e ∙ f
inside-one low at (first ∷ spans) a b r (zero, l, e) (suc j, m, f) la ma lb mb =
    let end : first.end ≡ a.end = ap (λ s. s.end) e in
    let later = among-rise first.end spans b r.2 (j, omega (arith, m), f) in absurd (omega (arith, end, later.0, ma, lb))
inside-one low at (first ∷ spans) a b r (suc i, l, e) (zero, m, f) la ma lb mb =
    let end : first.end ≡ b.end = ap (λ s. s.end) f in
    let later = among-rise first.end spans a r.2 (i, omega (arith, l), e) in absurd (omega (arith, end, later.0, mb, la))
inside-one low at (first ∷ spans) a b r (suc i, l, e) (suc j, m, f) la ma lb mb =
    inside-one first.end at spans a b r.2 (i, omega (arith, l), e) (j, omega (arith, m), f) la ma lb mb

-- ---- places that move

module _ (new : ℕ) where
  -- before all spans nothing moves
  pub moved-before : (low at : ℕ) (spans : List PlainSpan) → RiseFrom low spans → at ≤ low → moved_behind new spans at ≡ at
  moved-before low at [] r l = refl
  moved-before low at (span ∷ spans) r l =
      cond-false (nat_lt span.start at) _ (moved_behind new spans at) (le-ltb span.start at (omega (arith, l, r.0)))
      ∙ moved-before span.end at spans r.2 (omega (arith, l, r.0, r.1))

  moved-first : (span : PlainSpan) (spans : List PlainSpan) (at : ℕ) → span.start < at → moved_behind new (span ∷ spans) at ≡ (moved_behind new spans at + new) - (span.end - span.start)
  moved-first span spans at l = cond-true (nat_lt span.start at) _ (moved_behind new spans at) (lt-ltb span.start at l)

  moved-later : (span : PlainSpan) (spans : List PlainSpan) (at : ℕ) → at ≤ span.start → moved_behind new (span ∷ spans) at ≡ moved_behind new spans at
  moved-later span spans at l = cond-false (nat_lt span.start at) _ (moved_behind new spans at) (le-ltb span.start at l)

  -- nothing behind an offset moves before it
  pub moved-least : (low at : ℕ) (spans : List PlainSpan) → RiseFrom low spans → IsOutside at spans → low ≤ at → low ≤ moved_behind new spans at
  moved-least low at [] r o l = l
  moved-least low at (span ∷ spans) r o l =
      ⊎_elim
      (λ less. let behind = o.0 less in let x = moved-least span.end at spans r.2 o.1 behind in let e = moved-first span spans at less in omega (arith, r.0, r.1, x, e))
      (λ le. let e = moved-later span spans at le in let x = moved-before span.end at spans r.2 (omega (arith, le, r.1)) in omega (arith, e, x, l))
      (cases_lt span.start at)

  -- a byte that no span holds stays beside the next one
  pub moved-next : (low at : ℕ) (spans : List PlainSpan) → RiseFrom low spans → IsFree at spans → moved_behind new spans (suc at) ≡ suc (moved_behind new spans at)
  moved-next low at [] r h = refl
  moved-next low at (span ∷ spans) r h =
      let tail = moved-next span.end at spans r.2 h.1 in
      ⊎_elim
      (λ less. let behind = h.0 (omega (arith, less)) in
      let x = moved-least span.end at spans r.2 (free-outside at spans h.1) behind in
      let e = moved-first span spans at less in
      let f = moved-first span spans (suc at) (omega (arith, less)) in omega (arith, r.1, x, e, f, tail))
      (λ le. let apart : suc at ≤ span.start = ⊎_elim (λ l. l) (λ ge. let end = h.0 ge in absurd (omega (arith, end, le, r.1))) (cases_lt at span.start) in
      let e = moved-later span spans at le in let f = moved-later span spans (suc at) apart in omega (arith, e, f, tail))
      (cases_lt span.start at)

  -- a span has the new length
  pub moved-end : (low : ℕ) (spans : List PlainSpan) (span : PlainSpan) → RiseFrom low spans → Contains spans span → moved_behind new spans span.end ≡ moved_behind new spans span.start + new
  moved-end low [] span r (k, l, e) = absurd (omega (arith, l))
  moved-end low (first ∷ spans) span r (zero, l, e) =
      let start = moved-later first spans first.start (omega arith) in
      let end = moved-first first spans first.end r.1 in
      let x = moved-before first.end first.start spans r.2 (omega (arith, r.1)) in
      let y = moved-before first.end first.end spans r.2 (omega arith) in
      subst (λ s. moved_behind new (first ∷ spans) s.end ≡ moved_behind new (first ∷ spans) s.start + new) e (omega (arith, start, end, x, y, r.1))
  moved-end low (first ∷ spans) span r (suc k, l, e) =
      let later = among-rise first.end spans span r.2 (k, omega (arith, l), e) in
      let tail = moved-end first.end spans span r.2 (k, omega (arith, l), e) in
      let x = moved-least first.end span.start spans r.2 (start-outside first.end spans span r.2 (k, omega (arith, l), e)) later.0 in
      let start = moved-first first spans span.start (omega (arith, later.0, r.1)) in
      let end = moved-first first spans span.end (omega (arith, later.0, later.1, r.1)) in omega (arith, r.1, tail, x, start, end)

  -- offsets that aren't strictly inside spans stay in their order
  pub moved-rises : (low a b : ℕ) (spans : List PlainSpan) → 0 < new → RiseFrom low spans → IsOutside a spans → IsOutside b spans → a < b → moved_behind new spans a < moved_behind new spans b
  moved-rises low a b [] some r oa ob l = l
  moved-rises low a b (span ∷ spans) some r oa ob l =
      let tail = moved-rises span.end a b spans some r.2 oa.1 ob.1 l in
      ⊎_elim
      (λ less. let xa = moved-least span.end a spans r.2 oa.1 (oa.0 less) in
      let ea = moved-first span spans a less in let eb = moved-first span spans b (omega (arith, less, l)) in omega (arith, r.1, tail, xa, ea, eb))
      (λ le. let ea = moved-later span spans a le in
      ⊎_elim
      (λ more. let xb = moved-least span.end b spans r.2 ob.1 (ob.0 more) in
      let xa = moved-before span.end a spans r.2 (omega (arith, le, r.1)) in
      let eb = moved-first span spans b more in omega (arith, r.1, some, xa, xb, ea, eb, le))
      (λ ge. let eb = moved-later span spans b ge in omega (arith, tail, ea, eb)) (cases_lt span.start b))
      (cases_lt span.start a)

  pub moved-keeps_order : (low a b : ℕ) (spans : List PlainSpan) → 0 < new → RiseFrom low spans → IsOutside a spans → IsOutside b spans → a ≤ b → moved_behind new spans a ≤ moved_behind new spans b
  moved-keeps_order low a b spans some r oa ob le =
      ⊎_elim (λ l. let e = moved-rises low a b spans some r oa ob l in omega (arith, e)) (λ ge. let e : a ≡ b = omega (arith, le, ge) in subst (λ k. moved_behind new spans a ≤ moved_behind new spans k) e (omega arith)) (cases_lt a b)
