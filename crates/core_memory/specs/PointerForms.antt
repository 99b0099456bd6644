-- Where pointers stand, and how they move.
use Rattle.std.specs.Prelude.{ℕ, nat_le, ◌==◌, ℤ, pos, negsuc, ◌-ℤ◌, List, ◌∷◌, Option, Some, None, if◌then◌else◌}
use Rattle.c_types.specs.declared.arithmetic.BinaryOp.{BinaryOp}
use Rattle.c_types.specs.Types.{PlainType, long}
use Rattle.c_types.specs.Arithmetic.{binary_value}
use Rattle.core_meaning.specs.Values.{Path, Stand, stand_of, same_array}
use Rattle.core_meaning.specs.Memory.{Object, Memory, defined_value}
use Rattle.core_cells.specs.declared.values.Step.{Step}
use Rattle.core_memory.specs.declared.pointers.Indices.{Indices}
use Rattle.core_cells.specs.Forms.{plain_step}

-- an index in an array of so many elements, or behind its end
abbrev pub index_number : ℕ → ℤ → Option ℕ
index_number count (pos n) = if nat_le n count then Some n else None
index_number count (negsuc n) = None

abbrev pub with_step : Path → Option Step → Path
with_step path None = path
with_step path (Some step) = plain_step step ∷ path

-- where two pointers stand, if that is in one array
abbrev pub indices_at : Stand → Stand → Option Indices
indices_at a b = if same_array a b then Some (record { first = a.index; second = b.index }) else None

abbrev pub difference_of : Indices → ℤ
difference_of x = pos x.first -ℤ pos x.second

abbrev pub order_of : BinaryOp → Indices → Option ℤ
order_of op x = defined_value (binary_value op long (pos x.first) (pos x.second))

module _ (structs : List (List PlainType)) where
  -- where a path stands in an object, if the object lives
  abbrev pub object_stand : Object → Path → Option Stand
  object_stand object path = if object.lives then Some (stand_of structs object.ty path) else None

  abbrev pub object_indices : Object → Path → Path → Option Indices
  object_indices object p q =
      if object.lives then indices_at (stand_of structs object.ty p) (stand_of structs object.ty q) else None

  abbrev pub together : Memory → ℕ → Path → ℕ → Path → Option Indices
  together m j p k q = if j == k then object_indices (m.object j) p q else None
