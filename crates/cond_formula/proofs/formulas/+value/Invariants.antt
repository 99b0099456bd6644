use Rattle.std.proofs.Common.{◌≡◌, drop}
use Rattle.cond_formula.specs.Features.{has}
use Rattle.cond_formula.specs.Conditions.{conditions_of, all_true, any_true}
use Rattle.cond_formula.proofs.formulas.+value.Given as goal

abbrev pub invariant-all_hold-loop-part : goal.invariant-all_hold-loop-part
invariant-all_hold-loop-part l =
    all_true (has l.c) (conditions_of (drop l.part-index l.parts)) ≡ all_true (has l.c) (conditions_of l.parts)

abbrev pub invariant-some_holds-loop-part : goal.invariant-some_holds-loop-part
invariant-some_holds-loop-part l =
    any_true (has l.c) (conditions_of (drop l.part-index l.parts)) ≡ any_true (has l.c) (conditions_of l.parts)
