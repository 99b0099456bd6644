-- What comes of items of a unit, as a configuration sees them (ISO/IEC 9899:2011, 6.7, 6.9).
use Rattle.std.specs.Prelude.{◌≡◌, ℕ, Bool, true, false, List}
use Rattle.c_tree.specs.Trees.{PlainTree, PlainTrees}
use Rattle.core_meaning.specs.Checking.{Checked, fine, ◌>>=◌, give}
use Rattle.core_meaning.specs.Entities.{Struct}
use Rattle.core_meaning.specs.UnitNames.{UnitState, with_scope, declared_from}
use Rattle.type_tables.specs.Numbers.{NumbersKept}
use Rattle.cond_declarators.specs.Types.{based_in}
use Rattle.cond_units.specs.Seen.{SeenUnit}
use Rattle.cond_units.specs.Declaring.{IsUnit}
use Rattle.cond_units.specs.Names.{storage_in}

-- What is seen goes on to say what the unit is. There may be further structs; those that were there have the same numbers.
pub record GoesOnAnew (by : ℕ → ℕ) (structs : List Struct) (unit : UnitState) (seen : SeenUnit) : Type 0 where
  pub numbers : ℕ → ℕ
  pub is_unit : IsUnit numbers seen unit
  pub kept : NumbersKept structs by numbers

-- so it is behind an item; or the item is refused
abbrev pub ItemGoesOn : (ℕ → ℕ) → List Struct → Checked UnitState → Bool → SeenUnit → Type 0
ItemGoesOn by structs (fine unit bindings) refused seen = (refused ≡ false) × GoesOnAnew by structs unit seen
ItemGoesOn by structs other refused seen = refused ≡ true

-- what is judged of an item is declared
pub record DeclaresItem (judged : UnitState → Checked UnitState) (Ready : Type 0) (old new : SeenUnit) (refused : Bool) : Type 0 where
  pub goes_on : (by : ℕ → ℕ) (unit : UnitState) → IsUnit by old unit → Ready → ItemGoesOn by unit.scope.structs (judged unit) refused new

-- a declaration with these words and this list of declarators
abbrev pub declaration_of : ℕ → PlainTree → PlainTrees → PlainTrees → UnitState → Checked UnitState
declaration_of globals words list rest unit =
    based_in true unit.scope words >>= (λ base. declared_from globals (with_scope unit base.scope) (storage_in words) base.ty list rest)

-- a declaration of these words alone
abbrev pub words_alone : PlainTree → UnitState → Checked UnitState
words_alone words unit = based_in true unit.scope words >>= (λ base. give (with_scope unit base.scope))
