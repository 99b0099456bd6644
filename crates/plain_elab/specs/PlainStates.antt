-- Units that were judged, without pointers, room in memory and the order of maps.
use Rattle.std.specs.Prelude.{◌≡◌, ⊤, [], ℕ, List, ◌∷◌, ◌++◌, map, Option, Some, None, slice_get, Vec}
use Rattle.std.specs.HashMap.{HashMap}
use Rattle.std.specs.declared.alloc.Global.{Global}
use Rattle.core_meaning.specs.Checking.{Checked, fine, refused, broken}
use Rattle.core_meaning.specs.Entities as spec
use Rattle.core_meaning.specs.Entities.{no_entry}
use Rattle.core_meaning.specs.Linking.{Units}
use Rattle.plain_scope.specs.PlainScope.{entry_of, plain_struct}
use Rattle.plain_link.specs.PlainUnits.{plain_unit}
use Rattle.plain_units.specs.Closing.{plain_numbers}
use Rattle.plain_scope.specs.declared.entities.Numbers.{Numbers}
use Rattle.plain_scope.specs.declared.entities.Struct.{Struct}
use Rattle.plain_link.specs.declared.left.Left.{Left}

-- units that were judged, and their structs
abbrev pub plain_judged : ℕ → Vec Left Global × Vec Struct Global → Units
plain_judged globals judged = record { units = map (plain_unit globals) judged.0.items; structs = map plain_struct judged.1.items }

-- the numbers of the units by their places in the project's order
abbrev pub or_no_numbers : {S : Type 0} → HashMap (Vec ℕ Global) ℕ S → ℕ → Option Numbers → spec.Numbers
or_no_numbers texts index None = record { globals = no_entry; functions = no_entry; literals = entry_of texts }
or_no_numbers texts index (Some numbers) = plain_numbers numbers texts

abbrev pub numbers_at : {S : Type 0} → List Numbers → HashMap (Vec ℕ Global) ℕ S → ℕ → spec.Numbers
numbers_at numbers texts index = or_no_numbers texts index (slice_get numbers index)

-- units behind others
abbrev pub behind_units : List Left → ℕ → Checked Units → Checked Units
behind_units front globals (fine x bindings) =
    fine (record { units = map (plain_unit globals) front ++ x.units; structs = x.structs }) bindings
behind_units front globals (refused kind token) = refused kind token
behind_units front globals broken = broken

abbrev pub HasNoNumbers : Numbers → Type 0
HasNoNumbers numbers = (numbers.globals.entries ≡ []) × (numbers.functions.entries ≡ [])

abbrev pub HaveNoNumbers : List Numbers → Type 0
HaveNoNumbers [] = ⊤
HaveNoNumbers (numbers ∷ others) = HasNoNumbers numbers × HaveNoNumbers others
