-- What the condition of a line comes to in a configuration.
use Rattle.std.specs.Prelude.{ℕ, Bool, true, false, not, ◌&&◌, ◌||◌, List, [], ◌∷◌, Option, Some, None, if◌then◌else◌}
use Rattle.cond_formula.specs.Conditions.{Always, condition_of, value}
use Rattle.c_text.specs.Token.{PlainToken}
use Rattle.c_text.specs.Expressions.{is_zero}
use Rattle.c_text.specs.Preprocessing as spec
use Rattle.pp_lines.specs.declared.expressions.Value.{Value}
use Rattle.pp_lines.specs.declared.expressions.Value.TheVariants.{Number, Refused}
use Rattle.conditional.specs.Entries.{Entry}
use Rattle.cond_groups.specs.declared.conditions.CondTruth.{CondTruth}

-- whether the condition holds, if the line isn't refused
abbrev pub truth_at : (ℕ → Bool) → CondTruth → Option Bool
truth_at on t = if value on (condition_of t.refused) then None else Some (value on (condition_of t.holds))

abbrev pub came_out : spec.Condition → Option Bool
came_out (spec.holds truth) = Some truth
came_out (spec.fails why) = None

-- what an expression with this value says
abbrev pub truth_of_value : Value → Option Bool
truth_of_value (Number n) = Some (not (is_zero n))
truth_of_value Refused = None

abbrev pub is_met : Value → Bool
is_met (Number n) = not (is_zero n)
is_met Refused = false

abbrev pub is_bad : Value → Bool
is_bad (Number n) = false
is_bad Refused = true

-- some value that holds is met, or is none
abbrev pub any_met : (ℕ → Bool) → List (Entry Value) → Bool
any_met on [] = false
any_met on (e ∷ rest) = (value on e.when && is_met e.what) || any_met on rest

abbrev pub any_bad : (ℕ → Bool) → List (Entry Value) → Bool
any_bad on [] = false
any_bad on (e ∷ rest) = (value on e.when && is_bad e.what) || any_bad on rest

-- a token that is present everywhere
abbrev pub always_entry : PlainToken → Entry PlainToken
always_entry token = record { when = Always; what = token }
