-- What is told of the identifiers of units in all configurations, and when a configuration is told what there is in its units.
use Rattle.std.specs.Prelude.{◌≡◌, ℕ, Bool, false, List, [], ◌∷◌, IsTrue, if◌then◌else◌}
use Rattle.cond_formula.specs.Conditions.{condition_of, value}
use Rattle.choice_trees.specs.declared.trees.Forest.{Forest}
use Rattle.choice_trees.specs.Leaves.{forest_leaves}
use Rattle.project_file.specs.declared.projects.Unit.{Unit}
use Rattle.cond_scopes.specs.Progress.{numbers}
use Rattle.cond_pairings.specs.Pairs.{pairs_seen}
use Rattle.program_occurrences.specs.Occurrences.{UnitNames}
use Rattle.tied_tokens.specs.Ties.{plain_common_name}
use Rattle.told_occurrences.specs.declared.told.ToldName.{ToldName}
use Rattle.told_occurrences.specs.declared.told.ToldUnit.{ToldUnit}
use Rattle.told_occurrences.specs.Told.{NumberedName, IsTold}

abbrev pub plain_name : ToldName → NumberedName
plain_name n = record { number = n.number; name = plain_common_name n.name }

module _ (on : ℕ → Bool) where
  abbrev pub names_seen : List ToldName → List NumberedName
  names_seen [] = []
  names_seen (n ∷ rest) = if value on (condition_of n.when) then plain_name n ∷ names_seen rest else names_seen rest

  -- what a configuration sees tells the unit
  abbrev pub IsToldAs : Forest → UnitNames → ToldUnit → Type 0
  IsToldAs forest unit told = IsTold (numbers (forest_leaves on forest)) unit (pairs_seen on told.pairs.items) (names_seen told.names.items)

  -- it sees nothing
  pub record IsSilent (told : ToldUnit) : Type 0 where
    pub no_pairs : pairs_seen on told.pairs.items ≡ []
    pub no_names : names_seen told.names.items ≡ []

  -- The units that are present are told, one after the other, and of the others nothing is.
  pub data AreTold : List Unit → List Forest → List UnitNames → List ToldUnit → Type 0 where
    no_more : {forests : List Forest} → AreTold [] forests [] []
    present :
        {unit : Unit} {units : List Unit} {forest : Forest} {forests : List Forest} {names : UnitNames} {more : List UnitNames} {told : ToldUnit} {rest : List ToldUnit}
        → IsTrue (value on (condition_of unit.when)) → IsToldAs forest names told → AreTold units forests more rest
        → AreTold (unit ∷ units) (forest ∷ forests) (names ∷ more) (told ∷ rest)
    absent :
        {unit : Unit} {units : List Unit} {forest : Forest} {forests : List Forest} {more : List UnitNames} {told : ToldUnit} {rest : List ToldUnit}
        → value on (condition_of unit.when) ≡ false → IsSilent told → AreTold units forests more rest
        → AreTold (unit ∷ units) (forest ∷ forests) more (told ∷ rest)
