use Rattle.std.proofs.Common.{◌≡◌, drop}
use Rattle.refute_check.specs.Steps.{no_values, all_taken_false}
use Rattle.clause_search.proofs.trail.Trail.new.Given as goal

abbrev pub invariant-loop-literal : goal.invariant-loop-literal
invariant-loop-literal l =
    all_taken_false l.values.items (drop l.literal-index l.decisions) ≡ all_taken_false (no_values l.vars) l.decisions
