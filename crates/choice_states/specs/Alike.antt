-- States by which one stands alike, whatever the parts are.
use Rattle.std.specs.Prelude.{◌≡◌, ℕ, Bool, if◌then◌else◌}
use Rattle.cond_formula.specs.declared.formulas.Formula.{Formula}
use Rattle.cond_formula.specs.Conditions.{condition_of, value}
use Rattle.choice_states.specs.declared.states.State.{State}
use Rattle.choice_states.specs.Seen.{Parts}
use Rattle.choice_states.specs.States.{standing}

abbrev pub StandAlike : State → State → Type 0
StandAlike a b = (on : ℕ → Bool) (parts : Parts) → standing a on parts ≡ standing b on parts

-- as by the first where the formula is true, and as by the second elsewhere
abbrev pub StandsAsSplit : Formula → State → State → State → Type 0
StandsAsSplit f first second result =
    (on : ℕ → Bool) (parts : Parts)
    → standing result on parts ≡ (if value on (condition_of f) then standing first on parts else standing second on parts)
