use Rattle.std.proofs.Common.{drop}
use Rattle.cond_formula.specs.Conditions.{conditions_of, AllVarsBelow}
use Rattle.verdict_query.proofs.ranges.+ranges.Given as goal

abbrev pub invariant-are_within-loop-part : goal.invariant-are_within-loop-part
invariant-are_within-loop-part l =
    AllVarsBelow l.features (conditions_of (drop l.part-index l.parts)) → AllVarsBelow l.features (conditions_of l.parts)
