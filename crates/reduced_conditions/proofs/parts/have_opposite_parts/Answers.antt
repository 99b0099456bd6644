use Rattle.std.proofs.Common.{◌-◌, length, arith}
use Rattle.cond_formula.specs.Conditions.{condition_of, conditions_of, value, all_true}
use Rattle.reduced_conditions.proofs.PartLemmas.{part_of_all, false_where_not}
use Rattle.reduced_conditions.proofs.parts.have_opposite_parts.Goals as goal

pub returns-then-has_opposite : goal.returns-then-has_opposite
returns-then-has_opposite c = λ t on all.
    false_where_not (all_true on (conditions_of c.args.others.now)) (value on (condition_of c.index-parts-count.result)) (c.has_opposite.ensures c.if-has_opposite.true on)
    (part_of_all on c.args.parts.now (length c.args.parts.now - 1 - c.loop-i.i) c.index-parts-count.result (omega arith) c.index-parts-count.is all)
