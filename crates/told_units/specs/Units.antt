-- What is asked of units whose occurrences are told.
use Rattle.std.specs.Prelude.{◌≡◌, ℕ, Bool, List, ◌∷◌, map, IsTrue, ⊤}
use Rattle.cond_formula.specs.Conditions.{condition_of, value}
use Rattle.choice_trees.specs.declared.trees.Forest.{Forest}
use Rattle.choice_trees.specs.Leaves.{forest_leaves}
use Rattle.project_file.specs.declared.projects.Unit.{Unit}
use Rattle.link_faults.specs.declared.left.LeftUnit.{LeftUnit}
use Rattle.told_occurrences.specs.Leaves.{TellNumbers}

module _ (on : ℕ → Bool) where
  -- what units leave is there where they are present
  abbrev pub AreLeftWherePresent : List Unit → List LeftUnit → Type 0
  AreLeftWherePresent units left = map (λ l. value on (condition_of l.when)) left ≡ map (λ u. value on (condition_of u.when)) units

  -- the identifiers of the units that are present tell their numbers
  abbrev pub UnitsTellNumbers : List Unit → List Forest → Type 0
  UnitsTellNumbers (unit ∷ units) (forest ∷ forests) = (IsTrue (value on (condition_of unit.when)) → TellNumbers (forest_leaves on forest)) × UnitsTellNumbers units forests
  UnitsTellNumbers units forests = ⊤
