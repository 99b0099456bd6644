-- What the identifiers of a unit are bound to in all configurations (ISO/IEC 9899:2011, 6.2.1 to 6.2.3), and what a configuration sees of it.
use Rattle.std.specs.Prelude.{ℕ, Bool, ◌==◌, ◌&&◌, List, [], ◌∷◌, map, reverse, length, Option, Some, None, if◌then◌else◌}
use Rattle.std.specs.List.{list_any}
use Rattle.std.specs.Str.{bytes_eq}
use Rattle.cond_formula.specs.Conditions.{Condition, value, condition_of}
use Rattle.core_meaning.specs.Entities.{or_else}
use Rattle.scope_readings.specs.Scopes.{Pairing, or_own}
use Rattle.cond_bindings.specs.declared.unit_bindings.Declaration.{Declaration}
use Rattle.cond_bindings.specs.declared.unit_bindings.FileUse.{FileUse}
use Rattle.cond_bindings.specs.declared.unit_bindings.Identifier.{Identifier}
use Rattle.cond_bindings.specs.declared.unit_bindings.Meaning.{Meaning}
use Rattle.cond_bindings.specs.declared.unit_bindings.Meaning.TheVariants.{Use, Declares}
use Rattle.cond_bindings.specs.declared.unit_bindings.UnitBindings.{UnitBindings}

-- a declaration that is visible where its condition is true
pub record Visible : Type 0 where
  pub when : Condition
  pub number : ℕ

-- The declarations of a name that are visible, the latest first: the one at a place of the list, and those that it hides. The list is given the
-- latest first too, so that a place is the number of those behind it.
abbrev pub visible_from : List Declaration → Option ℕ → List Visible
visible_from [] place = []
visible_from (d ∷ earlier) None = []
visible_from (d ∷ earlier) (Some place) =
    if place == length earlier then record { when = condition_of d.when; number = d.number } ∷ visible_from earlier d.hides
    else visible_from earlier (Some place)

abbrev pub visible : List Declaration → Option ℕ → List Visible
visible declarations place = visible_from (reverse declarations) place

pub data PlainMeaning : Type 0 where
  -- a use: what is visible of its name in the blocks that are open, and at file scope
  use_of : List Visible → List Visible → PlainMeaning
  -- a declaration: what is visible of the same entity before it
  declares : List Visible → PlainMeaning

abbrev pub plain_meaning : List Declaration → Meaning → PlainMeaning
plain_meaning declarations (Use block file) = use_of (visible declarations block) (visible declarations file)
plain_meaning declarations (Declares earlier) = declares (visible declarations earlier)

pub record PlainIdentifier : Type 0 where
  pub number : ℕ
  pub when : Condition
  pub meaning : PlainMeaning

abbrev pub plain_identifier : List Declaration → Identifier → PlainIdentifier
plain_identifier declarations i = record { number = i.number; when = condition_of i.when; meaning = plain_meaning declarations i.meaning }

-- the identifiers of a unit, in the order of its text
abbrev pub identifiers_of : UnitBindings → List PlainIdentifier
identifiers_of unit = map (plain_identifier unit.declarations.items) unit.identifiers.items

-- a name of file scope that an expression uses where the condition is true
pub record PlainUse : Type 0 where
  pub name : List ℕ
  pub when : Condition

abbrev pub plain_use : FileUse → PlainUse
plain_use u = record { name = u.name.items; when = condition_of u.when }

abbrev pub file_uses_of : UnitBindings → List PlainUse
file_uses_of unit = map plain_use unit.uses.items

-- ---- what a configuration sees

module _ (on : ℕ → Bool) where
  -- the innermost declaration that is there, and the first
  abbrev pub innermost : List Visible → Option ℕ
  innermost [] = None
  innermost (v ∷ outer) = if value on v.when then Some v.number else innermost outer

  abbrev pub if_there : Visible → Option ℕ
  if_there v = if value on v.when then Some v.number else None

  abbrev pub first : List Visible → Option ℕ
  first [] = None
  first (v ∷ earlier) = or_else (first earlier) (if_there v)

  -- by which token an identifier is declared
  abbrev pub declared_by : ℕ → PlainMeaning → Option ℕ
  declared_by number (use_of blocks file) = or_else (innermost blocks) (first file)
  declared_by number (declares earlier) = Some (or_own (first earlier) number)

  abbrev pub pairings_at : List PlainIdentifier → List Pairing
  pairings_at [] = []
  pairings_at (i ∷ rest) =
      if value on i.when then record { number = i.number; declared_by = declared_by i.number i.meaning } ∷ pairings_at rest
      else pairings_at rest

  -- whether some expression uses this name of file scope
  abbrev pub uses_at : List PlainUse → List ℕ → Bool
  uses_at uses name = list_any (λ u. value on u.when && bytes_eq u.name name) uses
