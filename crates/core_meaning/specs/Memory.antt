-- Objects: how they are made, read and written, and where their lives end (ISO/IEC 9899:2011, 6.2.4, 6.3.2.1, 6.5).
use Rattle.std.specs.Prelude.{ℕ, suc, ◌==◌, Bool, true, false, ◌&&◌, ℤ, pos, ◌-ℤ◌, List, [], ◌∷◌, ◌++◌, Option, Some, None, option_map, if◌then◌else◌}
use Rattle.c_types.specs.declared.arithmetic.Arith.{Arith}
use Rattle.c_types.specs.declared.arithmetic.Arith.TheVariants as arith
use Rattle.c_types.specs.declared.arithmetic.BinaryOp.{BinaryOp}
use Rattle.c_types.specs.declared.arithmetic.BinaryOp.TheVariants.{Eq, Ne}
use Rattle.c_types.specs.Types.{PlainType, pointer_to, long}
use Rattle.c_types.specs.Arithmetic.{binary_value}
use Rattle.core_meaning.specs.Values.{part, Path, Pointer, null, at, Scalar, number, pointer, Cells, Value, nothing, scalar, whole, same_path, onward, same_pointer, is_scalar, type_at, is_inside, Stand, stand_of, same_array, moved_path}

pub record Object : Type 0 where
  pub ty : PlainType
  -- it hasn't ended
  pub lives : Bool
  -- it isn't the array of a text
  pub writable : Bool
  pub cells : Cells

-- The objects that a run has made, by their numbers in the order of their making. An object that has ended keeps its number,
-- and holds nothing.
pub record Memory : Type 0 where
  pub made : ℕ
  pub object : ℕ → Object

-- ---- what objects begin with

abbrev pub unwritten : Cells
unwritten path = None

abbrev pub zero_of : PlainType → Scalar
zero_of (pointer_to t) = pointer null
zero_of other = number (pos 0)

-- a zero in each scalar (6.7.9)
abbrev pub zeros : List (List PlainType) → PlainType → Cells
zeros structs t path =
    if is_inside structs t path && is_scalar (type_at structs t path) then Some (zero_of (type_at structs t path)) else None

abbrev pub fresh : PlainType → Cells → Object
fresh t cells = record { ty = t; lives = true; writable = true; cells = cells }

-- ---- changes

abbrev pub with_object : Memory → ℕ → Object → Memory
with_object m k object = record m { object = λ j. if j == k then object else m.object j }

-- with one more object, whose number is how many were made before
abbrev pub with_new : Memory → Object → Memory
with_new m object = record { made = suc m.made; object = λ j. if j == m.made then object else m.object j }

abbrev pub with_ended : Memory → ℕ → Memory
with_ended m k = with_object m k (record (m.object k) { lives = false; cells = unwritten })

abbrev pub with_all_ended : Memory → List ℕ → Memory
with_all_ended m [] = m
with_all_ended m (k ∷ rest) = with_all_ended (with_ended m k) rest

-- ---- reading and writing

-- what stands at a path: a scalar, if it is written, or all scalars below the path
abbrev pub value_in : Bool → Cells → Path → Option Value
value_in true cells path = option_map scalar (cells path)
value_in false cells path = Some (whole (λ steps. cells (steps ++ path)))

abbrev pub by_steps : Cells → Option Scalar → Option Path → Option Scalar
by_steps parts old None = old
by_steps parts old (Some steps) = parts steps

-- the cells with a value in the place of what stood at a path; a struct's unwritten members stay unwritten
abbrev pub cells_with : Cells → Path → Value → Option Cells
cells_with cells path nothing = None
cells_with cells path (scalar v) = Some (λ other. if same_path other path then Some v else cells other)
cells_with cells path (whole parts) = Some (λ other. by_steps parts (cells other) (onward path other))

-- what arithmetic gives, if it is defined
abbrev pub defined_value : Arith → Option ℤ
defined_value (arith.Value z) = Some z
defined_value arith.Undefined = None

-- with the types of each struct's members
module _ (structs : List (List PlainType)) where
  -- the object lives, and the path leads to it or a part of it
  abbrev pub is_there : Object → Path → Bool
  is_there object path = object.lives && is_inside structs object.ty path

  -- what is read at a pointer, if that is defined
  abbrev pub value_at : Memory → Pointer → Option Value
  value_at m null = None
  value_at m (at k path) =
      if is_there (m.object k) path then value_in (is_scalar (type_at structs (m.object k).ty path)) (m.object k).cells path else None

  -- memory with a value written at a pointer, if that is defined
  abbrev pub written_at : Memory → Pointer → Value → Option Memory
  written_at m null v = None
  written_at m (at k path) v =
      if is_there (m.object k) path && (m.object k).writable
      then option_map (λ cells. with_object m k (record (m.object k) { cells = cells })) (cells_with (m.object k).cells path v)
      else None

  -- ---- pointers

  abbrev pub stand_in : Memory → ℕ → Path → Stand
  stand_in m k path = stand_of structs (m.object k).ty path

  -- a pointer moved over elements of a living array (6.5.6)
  abbrev pub moved : Memory → Pointer → ℤ → Option Pointer
  moved m null by = None
  moved m (at k path) by = if (m.object k).lives then option_map (at k) (moved_path (stand_in m k path) by) else None

  -- two pointers into one living array
  abbrev pub are_together : Memory → ℕ → Path → ℕ → Path → Bool
  are_together m j p k q = j == k && (m.object j).lives && same_array (stand_in m j p) (stand_in m k q)

  -- their difference (6.5.6)
  abbrev pub distance : Memory → Pointer → Pointer → Option ℤ
  distance m (at j p) (at k q) =
      if are_together m j p k q then Some (pos (stand_in m j p).index -ℤ pos (stand_in m k q).index) else None
  distance m p q = None

  abbrev pub ordered : BinaryOp → Memory → Pointer → Pointer → Option ℤ
  ordered op m (at j p) (at k q) =
      if are_together m j p k q
      then defined_value (binary_value op long (pos (stand_in m j p).index) (pos (stand_in m k q).index))
      else None
  ordered op m p q = None

  -- a comparison of two pointers, in order by their indices (6.5.8, 6.5.9)
  abbrev pub compared : BinaryOp → Memory → Pointer → Pointer → Option ℤ
  compared Eq m p q = Some (if same_pointer p q then pos 1 else pos 0)
  compared Ne m p q = Some (if same_pointer p q then pos 0 else pos 1)
  compared op m p q = ordered op m p q

-- the member of what a pointer points to (6.5.2.3)
abbrev pub member_at : Memory → Pointer → ℕ → Option Pointer
member_at m null k = None
member_at m (at object path) k = if (m.object object).lives then Some (at object (part k ∷ path)) else None

-- the first element of the array that a pointer points to (6.3.2.1)
abbrev pub first_at : Pointer → Option Pointer
first_at null = None
first_at (at object path) = Some (at object (part 0 ∷ path))
