-- The plain forms of values.
use Rattle.std.specs.Prelude.{ℕ, nat_lt, List, [], ◌∷◌, map, reverse, Option, Some, None, option_map, slice_get, if◌then◌else◌}
use Rattle.c_types.specs.Types.{PlainType, plain_type}
use Rattle.core_meaning.specs.Plain.{plain_layout}
use Rattle.core_meaning.specs.Values as plain
use Rattle.core_meaning.specs.Values.{part_count, part_type, is_scalar}
use Rattle.core_meaning.specs.Memory.{zero_of}
use Rattle.core_cells.specs.declared.values.Step.{Step}
use Rattle.core_cells.specs.declared.values.Step.TheVariants as step
use Rattle.core_cells.specs.declared.values.Location.{Location}
use Rattle.core_cells.specs.declared.values.Pointer.{Pointer}
use Rattle.core_cells.specs.declared.values.Pointer.TheVariants as pointer
use Rattle.core_cells.specs.declared.values.Scalar.{Scalar}
use Rattle.core_cells.specs.declared.values.Scalar.TheVariants as scalar
use Rattle.core_cells.specs.declared.values.Value.{Value}
use Rattle.core_cells.specs.declared.values.Value.TheVariants as value
use Rattle.core_cells.specs.declared.cells.Zeros.{Zeros}
use Rattle.core_cells.specs.declared.cells.Cells.{Cells}
use Rattle.core_cells.specs.declared.cells.Cells.TheOpen.{Cells-F}
use Rattle.core_cells.specs.declared.cells.Cells.TheFolds.{fold-Cells}

abbrev pub plain_step : Step → plain.Step
plain_step (step.Part k) = plain.part k
plain_step step.Behind = plain.behind

-- steps from the outside in
abbrev pub plain_steps : List Step → List plain.Step
plain_steps steps = map plain_step steps

abbrev pub plain_path : List Step → plain.Path
plain_path steps = reverse (map plain_step steps)

abbrev pub plain_location : Location → plain.Pointer
plain_location location = plain.at location.object (plain_path location.path.items)

abbrev pub plain_pointer : Pointer → plain.Pointer
plain_pointer pointer.Null = plain.null
plain_pointer (pointer.At location) = plain_location location

abbrev pub plain_scalar : Scalar → plain.Scalar
plain_scalar (scalar.Number z) = plain.number z
plain_scalar (scalar.Pointer p) = plain.pointer (plain_pointer p)

-- ---- cells, by the steps from the outside in

abbrev pub Inner : Type 0
Inner = List plain.Step → Option plain.Scalar

-- nothing is written
abbrev pub nothing_in : Inner
nothing_in steps = None

-- a zero in each scalar
abbrev pub zeros_in : List (List PlainType) → PlainType → Inner
zeros_in structs t [] = if is_scalar t then Some (zero_of t) else None
zeros_in structs t (plain.part k ∷ steps) =
    if nat_lt k (part_count structs t) then zeros_in structs (part_type structs t k) steps else None
zeros_in structs t (plain.behind ∷ steps) = None

abbrev pub zeros_of : Zeros → Inner
zeros_of z = zeros_in (map plain_layout z.structs.now) (plain_type z.ty.now)

-- what is held where nothing has been written: zeros by a type, or nothing
abbrev pub rest_in : Option Zeros → Inner
rest_in None = nothing_in
rest_in (Some z) = zeros_of z

-- what is held in a part that has no cells of its own
abbrev pub rest_cells : Option Zeros → ℕ → Inner
rest_cells rest k steps = rest_in rest (plain.part k ∷ steps)

abbrev pub part_cells : Option Inner → Inner → Inner
part_cells (Some inner) other = inner
part_cells None other = other

-- the cells of an object or a part with these parts, and this type for the others
abbrev pub node_cells : Option Scalar → List Inner → Option Zeros → Inner
node_cells held parts rest [] = option_map plain_scalar held
node_cells held parts rest (plain.part k ∷ steps) = part_cells (slice_get parts k) (rest_cells rest k) steps
node_cells held parts rest (plain.behind ∷ steps) = None

abbrev pub cells_level : Cells-F Inner → Inner
cells_level c = node_cells c.held c.parts.items c.rest

unfoldable pub inner_cells : Cells → Inner
inner_cells = fold-Cells Inner cells_level

-- what cells hold, by paths whose last step comes first
abbrev pub plain_cells : Cells → plain.Cells
plain_cells c path = inner_cells c (reverse path)

abbrev pub plain_value : Value → plain.Value
plain_value value.Nothing = plain.nothing
plain_value (value.Scalar s) = plain.scalar (plain_scalar s)
plain_value (value.Whole c) = plain.whole (plain_cells c)
