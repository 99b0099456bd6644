-- What is told of units by what is noted of each in all configurations.
use Rattle.std.specs.Prelude.{◌≡◌, ℕ, suc, Bool, not, List, [], ◌∷◌, ◌++◌, Some, slice_get, ⊤}
use Rattle.cond_formula.specs.Conditions.{Condition, condition_of, value}
use Rattle.conditional.specs.Entries.{under}
use Rattle.conditional.specs.declared.lists.CondList.{CondList}
use Rattle.choice_trees.specs.declared.trees.Forest.{Forest}
use Rattle.project_file.specs.declared.projects.Unit.{Unit}
use Rattle.program_occurrences.specs.Occurrences.{UnitNames}
use Rattle.cond_bindings.specs.declared.unit_bindings.UnitBindings.{UnitBindings}
use Rattle.cond_bindings.specs.Bindings.{identifiers_of, pairings_at}
use Rattle.link_faults.specs.declared.left.LeftUnit.{LeftUnit}
use Rattle.link_faults.specs.SeenUnits.{name_seen}
use Rattle.link_faults.specs.Measures.{is_so}
use Rattle.type_tables.specs.declared.tables.Tables.{Tables}
use Rattle.cond_selections.specs.declared.entries.Selection.{Selection}
use Rattle.cond_pairings.specs.Pairs.{Pair, declared_pairs, pairs_seen}
use Rattle.cond_name_spaces.specs.Spaced.{spaces_at}
use Rattle.member_pairs.specs.Members.{tag_of, pairs_of_uses}
use Rattle.cond_unit_uses.specs.Noted.{uses_at}
use Rattle.told_occurrences.specs.Units.{names_seen}
use Rattle.told_occurrences.specs.declared.told.ToldUnit.{ToldUnit}
use Rattle.read_occurrences.specs.Read.{names_read}

module _ (on : ℕ → Bool) where
  -- what a unit leaves tells which names have external linkage (6.2.2)
  abbrev pub TellsExternal : LeftUnit → UnitNames → Type 0
  TellsExternal left unit = (name : List ℕ) → unit.is_external name ≡ is_so (λ n. not n.internal) (name_seen on left.names name)

  -- identifiers with those to which they are bound
  abbrev pub bound_pairs : UnitBindings → List Pair
  bound_pairs bound = declared_pairs (pairings_at on (identifiers_of bound))

  -- What is told of a unit is what its bindings, its name spaces, what it leaves and its uses of members say.
  pub record IsToldBy (when : Condition) (forest : Forest) (bound : UnitBindings) (left : LeftUnit) (tables : Tables) (uses : CondList Selection) (told : ToldUnit) : Type 0 where
    pub pairs : pairs_seen on told.pairs.items ≡ bound_pairs bound ++ pairs_of_uses (tag_of tables) (under (value on when) (spaces_at on forest)) (uses_at on uses)
    pub names : (unit : UnitNames) → TellsExternal left unit → names_seen on told.names.items ≡ names_read unit (pairs_seen on told.pairs.items) (under (value on when) (spaces_at on forest))

  -- so it is with what is noted of the unit at a place, if something is
  pub record IsToldAt (unit : Unit) (forest : Forest) (place : ℕ) (bound : List UnitBindings) (left : List LeftUnit) (tables : Tables) (noted : List (CondList Selection)) (told : ToldUnit) : Type 0 where
    pub by :
        (b : UnitBindings) (l : LeftUnit) (uses : CondList Selection) → slice_get bound place ≡ Some b → slice_get left place ≡ Some l → slice_get noted place ≡ Some uses
        → IsToldBy (condition_of unit.when) forest b l tables uses told

  -- one by one, from a place on
  abbrev pub AreToldFrom : List UnitBindings → List LeftUnit → Tables → List (CondList Selection) → ℕ → List Unit → List Forest → List ToldUnit → Type 0
  AreToldFrom bound left tables noted place [] forests [] = ⊤
  AreToldFrom bound left tables noted place (unit ∷ units) (forest ∷ forests) (told ∷ all) =
      IsToldAt unit forest place bound left tables noted told × AreToldFrom bound left tables noted (suc place) units forests all
  AreToldFrom bound left tables noted place units forests all = ⊥
