-- Values, and the paths that lead into objects (ISO/IEC 9899:2011, 6.2.5, 6.5.6).
use Rattle.std.specs.Prelude.{ℕ, zero, suc, ◌==◌, Bool, true, false, not, ◌&&◌, nat_lt, nat_le, ℤ, pos, negsuc, ◌+ℤ◌, List, [], ◌∷◌, length, Option, Some, None, option_map, slice_index_or, if◌then◌else◌}
use Rattle.c_types.specs.Types.{PlainType, void, array_of, structure}
use Rattle.c_types.specs.Arithmetic.{is_zero}

-- From an array or a struct to the element or member with this number; or from an object or part to the place behind it.
pub data Step : Type 0 where
  part : ℕ → Step
  behind : Step

-- the steps from an object to a part of it, the last step first
abbrev pub Path : Type 0
Path = List Step

pub data Pointer : Type 0 where
  null : Pointer
  -- to the object with this number, or to a part of it
  at : ℕ → Path → Pointer

pub data Scalar : Type 0 where
  number : ℤ → Scalar
  pointer : Pointer → Scalar

-- what each scalar of an object or a part holds, by its path; None where it is unwritten
abbrev pub Cells : Type 0
Cells = Path → Option Scalar

-- What an expression gives: nothing, as a call that ends without a value does; a scalar; or a struct.
pub data Value : Type 0 where
  nothing : Value
  scalar : Scalar → Value
  whole : Cells → Value

-- ---- paths

abbrev pub same_step : Step → Step → Bool
same_step (part j) (part k) = j == k
same_step behind behind = true
same_step a b = false

abbrev pub same_path : Path → Path → Bool
same_path [] [] = true
same_path (a ∷ p) (b ∷ q) = same_step a b && same_path p q
same_path p q = false

-- the steps that lead on from the first path to the second
abbrev pub onward : Path → Path → Option Path
onward p [] = if same_path [] p then Some [] else None
onward p (step ∷ outer) =
    if same_path (step ∷ outer) p then Some [] else option_map (λ steps. step ∷ steps) (onward p outer)

-- a null pointer compares equal to null alone, and others where object and path are the same (6.5.9)
abbrev pub same_pointer : Pointer → Pointer → Bool
same_pointer null null = true
same_pointer (at a p) (at b q) = a == b && same_path p q
same_pointer p q = false

-- ---- truth

-- whether a condition holds: its number isn't 0, its pointer isn't null (6.8.4.1)
abbrev pub is_true : Scalar → Bool
is_true (number z) = not (is_zero z)
is_true (pointer null) = false
is_true (pointer (at object path)) = true

abbrev pub truth_number : Bool → Scalar
truth_number holds = number (if holds then pos 1 else pos 0)

-- ---- types of parts

abbrev pub is_scalar : PlainType → Bool
is_scalar void = false
is_scalar (array_of element count) = false
is_scalar (structure s) = false
is_scalar other = true

-- with the types of each struct's members
module _ (structs : List (List PlainType)) where
  abbrev pub part_count : PlainType → ℕ
  part_count (array_of element count) = count
  part_count (structure s) = length (slice_index_or structs s [])
  part_count other = 0

  abbrev pub part_type : PlainType → ℕ → PlainType
  part_type (array_of element count) k = element
  part_type (structure s) k = slice_index_or (slice_index_or structs s []) k void
  part_type other k = void

  -- the type of what stands at a path in an object of a type
  abbrev pub type_at : PlainType → Path → PlainType
  type_at t [] = t
  type_at t (part k ∷ outer) = part_type (type_at t outer) k
  type_at t (behind ∷ outer) = type_at t outer

  -- whether the path leads to the object or a part of it, and not behind one
  abbrev pub is_inside : PlainType → Path → Bool
  is_inside t [] = true
  is_inside t (part k ∷ outer) = is_inside t outer && nat_lt k (part_count (type_at t outer))
  is_inside t (behind ∷ outer) = false

-- ---- arrays

-- Where a pointer stands: in which array of how many elements, and at which of them, counted from 0 to the place behind the
-- last. What is no element counts as an array of one (6.5.6).
pub record Stand : Type 0 where
  -- the array's path; of what is no element, its own
  pub array : Path
  pub alone : Bool
  pub count : ℕ
  pub index : ℕ

abbrev pub lone_stand : Path → ℕ → Stand
lone_stand path index = record { array = path; alone = true; count = 1; index = index }

abbrev pub part_stand : PlainType → Path → ℕ → Stand
part_stand (array_of element count) outer k = record { array = outer; alone = false; count = count; index = k }
part_stand other outer k = lone_stand (part k ∷ outer) 0

abbrev pub stand_of : List (List PlainType) → PlainType → Path → Stand
stand_of structs t [] = lone_stand [] 0
stand_of structs t (part k ∷ outer) = part_stand (type_at structs t outer) outer k
stand_of structs t (behind ∷ outer) = lone_stand outer 1

abbrev pub lone_path : Path → ℕ → Path
lone_path path zero = path
lone_path path (suc n) = behind ∷ path

-- the path of another element of the same array
abbrev pub element_path : Stand → ℕ → Path
element_path stand index = if stand.alone then lone_path stand.array index else part index ∷ stand.array

-- the same array, for one object
abbrev pub same_array : Stand → Stand → Bool
same_array a b = same_path a.array b.array

-- so many elements further on, from 0 to the place behind the last (6.5.6)
abbrev pub index_path : Stand → ℤ → Option Path
index_path stand (pos index) = if nat_le index stand.count then Some (element_path stand index) else None
index_path stand (negsuc n) = None

abbrev pub moved_path : Stand → ℤ → Option Path
moved_path stand by = index_path stand (pos stand.index +ℤ by)
