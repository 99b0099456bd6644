-- How many nodes conditions have.
use Rattle.std.specs.Prelude.{ℕ, ◌+◌}
use Rattle.cond_formula.specs.Conditions.{Condition, Conditions, Always, Never, Feature, Inverse, All_of, Any_of, none, more}

abbrev mutual
  pub size : Condition → ℕ
  size Always = 1
  size Never = 1
  size (Feature feature) = 1
  size (Inverse inner) = size inner + 1
  size (All_of parts) = size_of_all parts + 1
  size (Any_of parts) = size_of_all parts + 1

  pub size_of_all : Conditions → ℕ
  size_of_all none = 0
  size_of_all (more part rest) = size part + size_of_all rest
