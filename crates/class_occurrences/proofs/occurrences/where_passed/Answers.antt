use Rattle.std.proofs.Common.{Bool, sym, ◌∙◌}
use Rattle.cond_formula.specs.Conditions.{condition_of, value}
use Rattle.cond_pairings.specs.Pairs.{Pair}
use Rattle.class_occurrences.specs.Occurring as spec
use Rattle.class_occurrences.specs.Occurring.{occurring}
use Rattle.class_occurrences.proofs.Passing.{passed_too, passed_over}
use Rattle.class_occurrences.proofs.occurrences.where_passed.Goals as goal
use Rattle.class_occurrences.proofs.occurrences.where_passed.Goals.{then-pair_passes+in_ok-when+in_ok-passed-2, else-pair_passes}

pub loop-pair-preserved : goal.loop-pair-preserved
loop-pair-preserved g c on =
    let unit = c.args.unit.now in
    let pair = c.pair-item.result in
    let passes : Pair → Bool = λ p. spec.passes (g.T.OccurrenceTest.passes c.args.test.now) (occurring unit.tokens.now p) in
    let answer = sym c.pair_passes.ensures in
    elim c.if-pair_passes.branch [
      | then-pair_passes+in_ok-when+in_ok-passed-2 w ↦ rw w.passed-is
          (rw (w.in_ok-passed-2.ensures on, w.in_ok-when.ensures)
          (passed_too on passes unit.pairs.now pair c.loop-pair.pair-index c.loop-pair-test.true c.pair-item.is (value on (condition_of c.loop-pair.passed)) _ (answer ∙ w.if-pair_passes.true) (c.loop-pair.invariant on)))
      | else-pair_passes w ↦ rw w.passed-is
          (passed_over on passes unit.pairs.now pair c.loop-pair.pair-index c.loop-pair-test.true c.pair-item.is (value on (condition_of c.loop-pair.passed)) _ (answer ∙ w.if-pair_passes.false) (c.loop-pair.invariant on))
    ]
