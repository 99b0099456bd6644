-- The names of file scope that the expressions of units use.
use Rattle.std.specs.Prelude.{◌≡◌, ℕ, suc, List, [], ◌∷◌, map, Option, Some, None, slice_get, ⊤}
use Rattle.cond_bindings.specs.declared.unit_bindings.UnitBindings.{UnitBindings}
use Rattle.cond_bindings.specs.Bindings.{PlainUse, plain_use, file_uses_of}
use Rattle.link_faults.specs.declared.left.LeftUnit.{LeftUnit}
use Rattle.cond_types.specs.declared.units.TypedUnit.{TypedUnit}

abbrev pub uses_of : Option UnitBindings → List PlainUse
uses_of None = []
uses_of (Some unit) = file_uses_of unit

abbrev pub uses_of_place : List UnitBindings → ℕ → List PlainUse
uses_of_place bound place = uses_of (slice_get bound place)

-- a unit leaves what it is by its types, and uses these names
pub record HasUses (uses : List PlainUse) (typed : TypedUnit) (left : LeftUnit) : Type 0 where
  pub when : left.when ≡ typed.when
  pub names : left.names ≡ typed.names
  pub defined : left.defined ≡ typed.defined
  pub used : map plain_use left.uses.items ≡ uses

-- one by one, from a place on
abbrev pub HaveUses : List UnitBindings → ℕ → List TypedUnit → List LeftUnit → Type 0
HaveUses bound place [] [] = ⊤
HaveUses bound place (typed ∷ all) (left ∷ rest) = HasUses (uses_of_place bound place) typed left × HaveUses bound (suc place) all rest
HaveUses bound place typed left = ⊥
