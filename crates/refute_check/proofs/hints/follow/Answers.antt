use Rattle.std.proofs.Common.{ℤ, pos, get_or, to_z, of_z, w32, rules}
use Rattle.refute_check.proofs.HintLaws.{effect_of_clause}
use Rattle.refute_check.proofs.hints.follow.Goals as goal

pub returns-then-not-is_false_literal-clause-effect :
    goal.returns-then-not-is_false_literal-clause-effect
returns-then-not-is_false_literal-clause-effect c =
    let literal : ℤ = to_z w32 (of_z w32 (get_or c.args.clause.now c.loop-index.index (pos 0))) in
    effect_of_clause c.args.number c.args.marks.now c.loop-index.marks c.extend.new.marks c.args.clause.now c.loop-index.index literal (pos 0) c.extend.result c.loop-index-test.true (search rules) c.loop-index.invariant.1 c.loop-index.invariant.0 c.extend.ensures.effect
