-- Pairs of identifiers and what declares them, and what a configuration sees of them.
use Rattle.std.specs.Prelude.{ℕ, Bool, List, [], ◌∷◌, ◌++◌, Option, Some, None, if◌then◌else◌}
use Rattle.cond_formula.specs.Conditions.{value, condition_of}
use Rattle.scope_readings.specs.Scopes.{Pairing}
use Rattle.cond_pairings.specs.declared.pairs.CondPairing.{CondPairing}

-- an identifier and the one that declares it, by the numbers of their tokens
pub record Pair : Type 0 where
  pub identifier : ℕ
  pub declared_by : ℕ

abbrev pub pair_with : ℕ → Option ℕ → List Pair
pair_with identifier None = []
pair_with identifier (Some by) = record { identifier = identifier; declared_by = by } ∷ []

-- those identifiers among these that are declared
abbrev pub declared_pairs : List Pairing → List Pair
declared_pairs [] = []
declared_pairs (p ∷ rest) = pair_with p.number p.declared_by ++ declared_pairs rest

module _ (on : ℕ → Bool) where
  abbrev pub one_seen : CondPairing → List Pair
  one_seen p = if value on (condition_of p.when) then record { identifier = p.identifier; declared_by = p.declared_by } ∷ [] else []

  -- the pairs that a configuration sees, in their order
  abbrev pub pairs_seen : List CondPairing → List Pair
  pairs_seen [] = []
  pairs_seen (p ∷ rest) = one_seen p ++ pairs_seen rest
