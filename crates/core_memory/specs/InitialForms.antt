-- What objects begin with.
use Rattle.std.specs.Prelude.{ℕ, List, [], ◌∷◌, Some, None, option_map, is_some, slice_get, pos, if◌then◌else◌}
use Rattle.c_types.specs.Types.{PlainType, char}
use Rattle.c_types.specs.Integers.{converted}
use Rattle.core_meaning.specs.Program.{PlainPart}
use Rattle.core_meaning.specs.Values.{Path, Cells, Scalar, number, part, onward, same_path}
use Rattle.core_meaning.specs.Memory.{Memory, with_object, zeros}
use Rattle.core_meaning.specs.Meaning.{cells_filled}

-- the cells, with those of others at a path
abbrev pub with_cells_at : Path → Cells → Cells → Cells
with_cells_at path held cells other = if is_some (onward path other) then held other else cells other

abbrev pub with_scalar_at : Path → Scalar → Cells → Cells
with_scalar_at path v cells other = if same_path other path then Some v else cells other

-- memory with zeros in the scalars of an object that no part gives
abbrev pub with_filled : List (List PlainType) → Memory → ℕ → PlainType → List PlainPart → Memory
with_filled structs m k t parts = with_object m k (record (m.object k) { cells = cells_filled parts (zeros structs t) (m.object k).cells })

-- the cells of an array with these bytes at its start
abbrev pub bytes_in : List ℕ → Cells
bytes_in bytes (part k ∷ []) = option_map (λ b. number (converted char (pos b))) (slice_get bytes k)
bytes_in bytes other = None
