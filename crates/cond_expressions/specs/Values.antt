-- The values of an `#if` expression in all configurations.
use Rattle.std.specs.Prelude.{◌≡◌, ℕ, Bool, List, [], ◌∷◌, map}
use Rattle.cond_formula.specs.Conditions.{condition_of}
use Rattle.cond_formula.specs.declared.formulas.Formula.{Formula}
use Rattle.conditional.specs.Entries.{Entry, seen}
use Rattle.pp_lines.specs.declared.expressions.Value.{Value}
use Rattle.pp_lines.specs.Values.{IsValueOf}
use Rattle.cond_tokens.specs.Streams.{tokens_at}
use Rattle.cond_tokens.specs.declared.tokens.CondToken.{CondToken}

abbrev pub value_entry : Formula × Value → Entry Value
value_entry alternative = record { when = condition_of alternative.0; what = alternative.1 }

-- the values of the alternatives that hold
abbrev pub values_at : (ℕ → Bool) → List (Formula × Value) → List Value
values_at on alternatives = seen on (map value_entry alternatives)

-- One alternative holds, alone, and it carries what the tokens that are present are worth.
pub record IsEvaluated (on : ℕ → Bool) (tokens : List CondToken) (alternatives : List (Formula × Value)) : Type 0 where
  pub value : Value
  pub is_value : IsValueOf (tokens_at on tokens) value
  pub holds_alone : values_at on alternatives ≡ value ∷ []
