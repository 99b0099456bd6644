use Rattle.std.proofs.Common.{refl, ap, ◌∙◌, subst}
use Rattle.cond_formula.specs.declared.formulas.Formula.{True}
use Rattle.cond_formula.specs.Features.{has}
use Rattle.cond_formula.specs.Conditions.{condition_of, value}
use Rattle.cond_formula.specs.ConditionLaws.{condition_of-True}
use Rattle.conditional.specs.Judgements.{checked}
use Rattle.choice_trees.specs.ChoiceTrees.{plain_branches, branch_at}
use Rattle.operand_rules.specs.PlainOperandTypes.{reason}
use Rattle.cond_sizes.specs.Sizes.{plain_count, ShowsCount}
use Rattle.cond_sizes.specs.Totals.{of_part}
use Rattle.cond_sizes.proofs.PartByPart.{part_start, part_step, part_end}
use Rattle.cond_sizes.proofs.totals.part_total.Goals as goal

pub loop-when-init : goal.loop-when-init
loop-when-init g c = record {
  kept = refl;
  so_far = λ n admitted.
      part_start (g.M.Measure.measure c.args.measure.now) c.args.needed (has n) c.deref-when-items.result.now (condition_of True) c.nothing-all.result
      (ap (value (has n)) condition_of-True) (c.nothing-all.ensures (has n) _);
}

pub loop-when-preserved : goal.loop-when-preserved
loop-when-preserved g c = record {
  kept = c.in_ok-place_possible.ensures.kept ∙ c.loop-when.invariant.kept;
  so_far = λ n admitted.
      part_step (g.M.Measure.measure c.args.measure.now) c.args.needed (has n) c.deref-when-items.result.now c.loop-when.when-index c.loop-when-item.result
      (condition_of c.loop-when.left) (condition_of c.in_ok-here.here) (condition_of c.in_ok-left.left) (checked plain_count reason c.in_ok-what.what)
      c.loop-when.all c.place_possible.new.all c.loop-when-test.true c.loop-when-item.is
      (c.in_ok-here.ensures (has n))
      (c.in_ok-left.ensures (has n)) (c.in_ok-what.ensures (has n))
      (c.in_ok-place_possible.ensures.judges n (ap (value (has n)) c.loop-when.invariant.kept ∙ admitted)) (c.loop-when.invariant.so_far n admitted);
}

pub returns-clause-shows : goal.returns-clause-shows
returns-clause-shows g c = λ n admitted.
    subst (λ list. ShowsCount (has n) (of_part (g.M.Measure.measure c.args.measure.now) c.args.needed (branch_at (has n) (plain_branches list))) c.place_possible-2.new.all)
    c.deref-when-items.ensures.value
    (part_end (g.M.Measure.measure c.args.measure.now) c.args.needed (has n) c.deref-when-items.result.now c.loop-when.when-index (condition_of c.loop-when.left)
    (checked plain_count reason c.of_no_part-what.result) c.loop-when.all c.place_possible-2.new.all c.loop-when-test.false c.of_no_part-what.ensures
    (c.in_ok-place_possible-2.ensures.judges n (ap (value (has n)) c.loop-when.invariant.kept ∙ admitted)) (c.loop-when.invariant.so_far n admitted))
