-- The numbers that the structs of a scope have in the tables.
use Rattle.std.specs.Prelude.{◌≡◌, ℕ, List, Some, slice_get}
use Rattle.core_meaning.specs.Entities.{Struct, Scope}
use Rattle.type_tables.specs.Tables.{Tables}
use Rattle.type_tables.specs.Follows.{Follows, FollowsInBlock}

-- the tables follow the scope, where structs have these numbers
pub record FollowsBy (by : ℕ → ℕ) (t : Tables) (scope : Scope) : Type 0 where
  pub follows : Follows t scope
  pub numbers : follows.by ≡ by

-- and say which names the innermost block declares
pub record FollowsInBlockBy (by : ℕ → ℕ) (t : Tables) (scope : Scope) : Type 0 where
  pub follows : FollowsInBlock t scope
  pub numbers : follows.follows.by ≡ by

-- the structs that are there have the same numbers
abbrev pub NumbersKept : List Struct → (ℕ → ℕ) → (ℕ → ℕ) → Type 0
NumbersKept structs by other = (n : ℕ) (s : Struct) → slice_get structs n ≡ Some s → by n ≡ other n
