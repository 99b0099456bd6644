-- What is said of the identifiers of units in all configurations.
use Rattle.std.specs.Prelude.{◌≡◌, ℕ, Bool, false, ◌&&◌, ◌||◌, List, [], ◌∷◌, IsTrue, ⊤, if◌then◌else◌}
use Rattle.cond_formula.specs.Conditions.{Condition, value, condition_of}
use Rattle.c_tree.specs.Trees.{PlainTree}
use Rattle.c_tree.specs.Grammar.{is_unit}
use Rattle.choice_trees.specs.declared.trees.Forest.{Forest}
use Rattle.choice_trees.specs.ChoiceTrees.{forest_at}
use Rattle.choice_trees.specs.Leaves.{forest_leaves}
use Rattle.project_file.specs.declared.projects.Unit.{Unit}
use Rattle.bindings.specs.Visible.{uses_among}
use Rattle.bindings.specs.Bindings.{bindings_of}
use Rattle.scope_readings.specs.Scopes.{Pairing}
use Rattle.scope_readings.specs.Laws.{pairings}
use Rattle.cond_bindings.specs.declared.unit_bindings.UnitBindings.{UnitBindings}
use Rattle.cond_bindings.specs.declared.unit_bindings.CondBindings.{CondBindings}
use Rattle.cond_bindings.specs.Bindings.{identifiers_of, pairings_at, file_uses_of, uses_at}
use Rattle.cond_bindings.specs.Names.{some_undeclared}
use Rattle.cond_scopes.specs.Progress.{numbers}

module _ (on : ℕ → Bool) where
  -- the bindings of a unit's tree, with the numbers that the tokens have in its stream
  abbrev pub bindings_at : Forest → List Pairing
  bindings_at forest = pairings (numbers (forest_leaves on forest)) (bindings_of (forest_at on forest))

  abbrev pub IsInGrammar : Forest → Type 0
  IsInGrammar forest = IsTrue (is_unit (forest_at on forest))

  -- where a unit is present its identifiers have their bindings, and elsewhere it has none
  pub record IsScoped (when : Condition) (forest : Forest) (unit : UnitBindings) : Type 0 where
    pub present : IsTrue (value on when) → IsInGrammar forest → pairings_at on (identifiers_of unit) ≡ bindings_at forest
    pub absent : value on when ≡ false → pairings_at on (identifiers_of unit) ≡ []

  -- where a unit is present its expressions use these names of file scope, and elsewhere none
  pub record UsesFileNames (when : Condition) (forest : Forest) (unit : UnitBindings) : Type 0 where
    pub present : IsTrue (value on when) → IsInGrammar forest → (name : List ℕ) → uses_at on (file_uses_of unit) name ≡ uses_among (bindings_of (forest_at on forest)) name
    pub absent : value on when ≡ false → (name : List ℕ) → uses_at on (file_uses_of unit) name ≡ false

  -- refused exactly where a unit that is present has an identifier that is undeclared
  pub record IsRefused (when : Condition) (forest : Forest) (refused : Bool) : Type 0 where
    pub present : IsTrue (value on when) → IsInGrammar forest → refused ≡ some_undeclared (bindings_at forest)
    pub absent : value on when ≡ false → refused ≡ false

  abbrev pub UnitsAreScoped : List Unit → List Forest → List UnitBindings → Type 0
  UnitsAreScoped (unit ∷ units) (forest ∷ forests) (bound ∷ all) = IsScoped (condition_of unit.when) forest bound × UnitsAreScoped units forests all
  UnitsAreScoped [] forests [] = ⊤
  UnitsAreScoped units forests all = ⊥

  abbrev pub UnitsUseFileNames : List Unit → List Forest → List UnitBindings → Type 0
  UnitsUseFileNames (unit ∷ units) (forest ∷ forests) (bound ∷ all) = UsesFileNames (condition_of unit.when) forest bound × UnitsUseFileNames units forests all
  UnitsUseFileNames [] forests [] = ⊤
  UnitsUseFileNames units forests all = ⊥

  -- the trees of the units that are present
  abbrev pub present_trees : List Unit → List Forest → List PlainTree
  present_trees (unit ∷ units) (forest ∷ forests) =
      if value on (condition_of unit.when) then forest_at on forest ∷ present_trees units forests else present_trees units forests
  present_trees units forests = []

  -- each unit that is present has a tree of the grammar
  abbrev pub AreInGrammar : List Unit → List Forest → Type 0
  AreInGrammar (unit ∷ units) (forest ∷ forests) = (IsTrue (value on (condition_of unit.when)) → IsInGrammar forest) × AreInGrammar units forests
  AreInGrammar units forests = ⊤

  abbrev pub any_undeclared : List Unit → List Forest → Bool
  any_undeclared (unit ∷ units) (forest ∷ forests) =
      (value on (condition_of unit.when) && some_undeclared (bindings_at forest)) || any_undeclared units forests
  any_undeclared units forests = false

  pub record AreScoped (units : List Unit) (forests : List Forest) (b : CondBindings) : Type 0 where
    pub bound : UnitsAreScoped units forests b.units.items
    pub used : UnitsUseFileNames units forests b.units.items
    pub refused : AreInGrammar units forests → value on (condition_of b.refused) ≡ any_undeclared units forests
