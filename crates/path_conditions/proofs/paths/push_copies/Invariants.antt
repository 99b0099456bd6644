use Rattle.std.proofs.Common.{◌≡◌, ℕ, Bool, ◌&&◌, drop}
use Rattle.cond_formula.specs.Conditions.{conditions_of, all_true}
use Rattle.path_conditions.proofs.paths.push_copies.Given as goal

abbrev pub invariant-loop-part : goal.invariant-loop-part
invariant-loop-part l =
    (on : ℕ → Bool) → (all_true on (conditions_of l.path.items) && all_true on (conditions_of (drop l.part-index l.parts)))
    ≡ (all_true on (conditions_of l.initial.path.items) && all_true on (conditions_of l.parts))
