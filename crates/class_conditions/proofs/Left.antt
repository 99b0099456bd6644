-- Behind the last unit none is left that passes.
use Rattle.std.proofs.Common.{◌≡◌, ℕ, ◌≤◌, Bool, false, ◌||◌, List, [], ◌∷◌, drop, length, inl, inr, refl, sym, ap, ◌∙◌}
use Rattle.std.specs.Prelude.{◌⊎◌}
use Rattle.std.proofs.Math.Bool.{or-false}
use Rattle.std.proofs.lemmas.List.{drop_all}
use Rattle.cond_tokens.specs.declared.tokens.CondStream.{CondStream}
use Rattle.told_occurrences.specs.declared.told.ToldUnit.{ToldUnit}
use Rattle.class_occurrences.specs.Occurring.{Occurring}
use Rattle.class_conditions.specs.Told.{some_unit_passes}

module _ (on : ℕ → Bool) (test : Occurring → Bool) where
  no_streams : (all : List ToldUnit) → some_unit_passes on test [] all ≡ false
  no_streams [] = refl
  no_streams (told ∷ all) = refl

  none_told : (streams : List CondStream) → some_unit_passes on test streams [] ≡ false
  none_told [] = refl
  none_told (stream ∷ streams) = refl

  none_left : (streams : List CondStream) (all : List ToldUnit) (i : ℕ) → (length streams ≤ i) ⊎ (length all ≤ i) → some_unit_passes on test (drop i streams) (drop i all) ≡ false
  none_left streams all i (inl past) = ap (λ ss. some_unit_passes on test ss (drop i all)) (drop_all i streams past) ∙ no_streams (drop i all)
  none_left streams all i (inr past) = ap (some_unit_passes on test (drop i streams)) (drop_all i all past) ∙ none_told (drop i streams)

  -- behind the last
  pub at_end :
      (streams : List CondStream) (all : List ToldUnit) (i : ℕ) → (length streams ≤ i) ⊎ (length all ≤ i) → (passed whole : Bool)
      → (passed || some_unit_passes on test (drop i streams) (drop i all)) ≡ whole → passed ≡ whole
  at_end streams all i past passed whole before =
      sym (or-false passed) ∙ (ap (λ b. passed || b) (sym (none_left streams all i past)) ∙ before)
