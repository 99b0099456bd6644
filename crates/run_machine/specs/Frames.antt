-- Slots that nothing is declared in.
use Rattle.std.specs.Prelude.{ℕ, List, length, replicate, Option, None}
use Rattle.c_types.specs.declared.types.CType.{CType}

abbrev pub no_slots : List CType → List (Option ℕ)
no_slots types = replicate (length types) None
