-- Places move in their order.
use Rattle.std.proofs.Common.{◌≡◌, ℕ, ◌<◌, ◌≤◌, List, length, ap, sym, ◌∙◌, subst, inl, inr, arith}
use Rattle.std.specs.Prelude.{nat_lt}
use Rattle.std.proofs.lemmas.Bool.{lt-ltb, le-ltb, cases_lt}
use Rattle.text_edits.specs.Span.{PlainSpan}
use Rattle.renamings.specs.Renamings.{Renaming, moved_behind, moved}
use Rattle.renamings.proofs.SpanLemmas.{RiseFrom, IsOutside, moved-rises}
use Rattle.renamed_units.proofs.Runs.{IsStanding}

-- the order of two places that aren't strictly inside spans
pub moved-test : (new low : ℕ) (spans : List PlainSpan) (a b : ℕ) → 0 < new → RiseFrom low spans → IsOutside a spans → IsOutside b spans → nat_lt (moved_behind new spans a) (moved_behind new spans b) ≡ nat_lt a b
moved-test new low spans a b n c o p = elim (cases_lt a b) as (λ x. nat_lt (moved_behind new spans a) (moved_behind new spans b) ≡ nat_lt a b) [
  | inl less ↦ lt-ltb (moved_behind new spans a) (moved_behind new spans b) (moved-rises new low a b spans n c o p less) ∙ sym (lt-ltb a b less)
  | inr over ↦ elim (cases_lt b a) as (λ x. nat_lt (moved_behind new spans a) (moved_behind new spans b) ≡ nat_lt a b) [
    | inl more ↦ le-ltb (moved_behind new spans a) (moved_behind new spans b) (below (moved-rises new low b a spans n c p o more)) ∙ sym (le-ltb a b over)
    | inr under ↦
        let same : a ≡ b = omega (arith, over, under) in
        le-ltb (moved_behind new spans a) (moved_behind new spans b) (subst (λ (x : ℕ). moved_behind new spans x ≤ moved_behind new spans a) same (omega arith)) ∙ sym (le-ltb a b over)
  ]
]
  where
    below : {x y : ℕ} → x < y → x ≤ y
    below h = omega (arith, h)

-- ---- tokens of a file

module _ (r : Renaming) (file : ℕ) where
  -- a span of the file that begins outside the renamed ones
  abbrev pub AtIn : ℕ → PlainSpan → Type 0
  AtIn other span = (other ≡ file) × IsOutside span.start (r.spans file)

  pub standing-in : (low : ℕ) → 0 < length r.new → RiseFrom low (r.spans file) → IsStanding r AtIn
  standing-in low n c = record {
    one_file = λ first second a b x y. x.0 ∙ sym y.0;
    order = λ first second a b x y.
        ap (λ (f : ℕ). nat_lt (moved r f a.start) (moved r second b.start)) x.0 ∙ ap (λ (f : ℕ). nat_lt (moved r file a.start) (moved r f b.start)) y.0
        ∙ moved-test (length r.new) low (r.spans file) a.start b.start n c x.1 y.1;
  }
