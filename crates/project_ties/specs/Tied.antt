-- Ties whose conditions name the features of a project alone.
use Rattle.std.specs.Prelude.{ℕ, Bool, List, map, All, IsTrue}
use Rattle.cond_formula.specs.Features.{has}
use Rattle.cond_formula.specs.Conditions.{Condition, value, VarsBelow}
use Rattle.feature_ranges.specs.Ranges.{IsOffFrom}
use Rattle.tied_tokens.specs.declared.names.DeclaredName.{DeclaredName}
use Rattle.tied_tokens.specs.declared.ties.Tie.{Tie}
use Rattle.tied_tokens.specs.Ties.{plain_tie, plain_declared_name}

-- a configuration that this condition admits, with none but so many features
pub record IsOwn (features : ℕ) (admits : Condition) (c : List Bool) : Type 0 where
  pub admitted : IsTrue (value (has c) admits)
  pub off : IsOffFrom features (has c)

abbrev pub TiesBelow : ℕ → List Tie → Type 0
TiesBelow features ties = All (λ tie. VarsBelow features tie.when) (map plain_tie ties)

abbrev pub NamesBelow : ℕ → List DeclaredName → Type 0
NamesBelow features names = All (λ n. VarsBelow features n.when) (map plain_declared_name names)
