-- Wrong pairs are told apart, by computing their runs.
use Rattle.std.proofs.Common.{◌≡◌, ℕ, pos, [], ◌∷◌, ap, arith}
use Rattle.core_meaning.specs.Run.{Answer, Ended}
use Rattle.run_pairs.specs.Laws.{KeepsRunsWithMoreCalls, KeepsRunsWithFewerCalls, ExtractionRuns}
use Rattle.run_pairs.specs.WorkedPairs.{writes_its_variable, writes_a_copy, uses_a_global, uses_its_parameter, reads_once, reads_twice, stops_early, goes_on, WrongPairs}

-- ---- wrong pairs

abbrev status_of : Answer → ℕ
status_of (Ended out (pos z)) = z
status_of other = 0

abbrev ends_with : ℕ → Answer
ends_with z = Ended [] (pos z)

differ : (y x : ℕ) → ends_with y ≡ ends_with x → y ≡ x
differ y x e = ap status_of e

written : KeepsRunsWithMoreCalls writes_its_variable writes_a_copy → ⊥
written keeps =
    let r : ends_with 1 ≡ ends_with 2 = (keeps [] 0 tt).0 in
    let e : ◌≡◌ {A = ℕ} 1 2 = ap status_of r in absurd (omega (arith, e))

shadows : KeepsRunsWithMoreCalls uses_a_global uses_its_parameter → ⊥
shadows keeps =
    let r : ends_with 7 ≡ ends_with 5 = (keeps [] 0 tt).0 in
    let e : ◌≡◌ {A = ℕ} 7 5 = ap status_of r in absurd (omega (arith, e))

each_use : KeepsRunsWithFewerCalls reads_once reads_twice → ⊥
each_use keeps =
    let r : ends_with 3 ≡ ends_with 2 = (keeps (1 ∷ 2 ∷ []) 1 tt).0 in
    let e : ◌≡◌ {A = ℕ} 3 2 = ap status_of r in absurd (omega (arith, e))

early : KeepsRunsWithFewerCalls stops_early goes_on → ⊥
early keeps =
    let r : ends_with 2 ≡ ends_with 1 = (keeps [] 1 tt).0 in
    let e : ◌≡◌ {A = ℕ} 2 1 = ap status_of r in absurd (omega (arith, e))

module _ (extractions : ExtractionRuns) where
  pub wrong_pairs_lem : WrongPairs
  wrong_pairs_lem = record {
    passed_by_value = record { not_related = λ x. written (extractions writes_its_variable writes_a_copy x); told_apart = written };
    shadowed = record { not_related = λ x. shadows (extractions uses_a_global uses_its_parameter x); told_apart = shadows };
    put_at_each_use = record { told_apart = each_use };
    inlined_early_return = record { told_apart = early };
  }
