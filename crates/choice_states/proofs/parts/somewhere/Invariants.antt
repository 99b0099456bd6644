use Rattle.std.proofs.Common.{◌≡◌, ℕ, Bool, not, ◌||◌, drop}
use Rattle.cond_formula.specs.Conditions.{condition_of, value}
use Rattle.choice_states.specs.Seen.{seen_in}
use Rattle.choice_states.specs.Parts.{is_empty, values}
use Rattle.choice_states.proofs.parts.somewhere.Given as goal

abbrev pub invariant-loop-part : goal.invariant-loop-part
invariant-loop-part l =
    (on : ℕ → Bool) → (value on (condition_of l.some) || not (is_empty (values (seen_in on (drop l.part-index l.parts)))))
    ≡ not (is_empty (values (seen_in on l.parts)))
