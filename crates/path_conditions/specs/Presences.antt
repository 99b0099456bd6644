-- What is known of a condition on a path.
use Rattle.std.specs.Prelude.{◌≡◌, Bool, true, false, List, IsTrue}
use Rattle.cond_formula.specs.declared.formulas.Formula.{Formula}
use Rattle.cond_formula.specs.Features.{has}
use Rattle.cond_formula.specs.Conditions.{Condition, conditions_of, value, all_true}
use Rattle.path_conditions.specs.declared.presences.Presence.{Presence}
use Rattle.path_conditions.specs.declared.presences.Presence.TheVariants.{Present, Absent, Unsure}

-- the condition has this value in all configurations that are admitted and on the path
abbrev pub IsEverywhere : Condition → List Formula → Condition → Bool → Type 0
IsEverywhere admits path when b =
    (c : List Bool) → IsTrue (value (has c) admits) → IsTrue (all_true (has c) (conditions_of path)) → value (has c) when ≡ b

abbrev pub IsPresence : Condition → List Formula → Condition → Presence → Type 0
IsPresence admits path when Present = IsEverywhere admits path when true
IsPresence admits path when Absent = IsEverywhere admits path when false
IsPresence admits path when Unsure = Unit {0}
