-- Constant expressions and initialisers (ISO/IEC 9899:2011, 6.6, 6.7.9).
use Rattle.std.specs.Prelude.{ℕ, suc, ◌+◌, ◌*◌, min, ◌==◌, nat_le, nat_lt, Bool, true, false, not, ◌&&◌, ℤ, pos, negsuc, List, [], ◌∷◌, ◌++◌, length, take, Option, Some, None, is_some, option_map, slice_get, if◌then◌else◌}
use Rattle.text_edits.specs.Span.{PlainSpan}
use Rattle.c_text.specs.Token.{PlainToken}
use Rattle.c_types.specs.Types.{PlainType, char, unsigned_char, array_of, structure}
use Rattle.c_types.specs.Integers.{is_integer, converted}
use Rattle.c_types.specs.Arithmetic.{is_zero}
use Rattle.c_tree.specs.declared.kinds.Kind.TheVariants as k
use Rattle.c_tree.specs.Trees.{PlainTree, PlainTrees, node, none, more}
use Rattle.core_meaning.specs.declared.expressions.Operation.{Operation}
use Rattle.core_meaning.specs.declared.expressions.Operation.TheVariants as operation
use Rattle.core_meaning.specs.declared.refusals.TypeKind.{TypeKind}
use Rattle.core_meaning.specs.declared.refusals.TypeKind.TheVariants.{BadOperand, BadConstant, Misplaced}
use Rattle.core_meaning.specs.Program.{type_of, PlainExpression, constant, null_constant, address, first_element, convert, binary, logical_not, logical_and, logical_or, choose, global, literal}
use Rattle.core_meaning.specs.Values.{part, Path, null, at, Scalar, number, pointer}
use Rattle.core_meaning.specs.Meaning.{computed}
use Rattle.core_meaning.specs.Checking.{Checked, refused, ◌>>=◌, give, unless_so, found_or, or_broken}
use Rattle.c_types.specs.Tags.{PlainMember}
use Rattle.core_meaning.specs.Entities.{Struct, Scope}
use Rattle.core_meaning.specs.Typing.{Typed, fits_into}
use Rattle.core_meaning.specs.Expressions.{first_token, text_bytes, count_entries, valued}

-- ---- constant expressions: numbers, characters and operators on them

abbrev pub is_constant : PlainExpression → Bool
is_constant (constant z) = true
is_constant (convert ty e) = is_constant e
is_constant (binary (operation.Numbers op ty) a b) = is_constant a && is_constant b
is_constant (logical_not e) = is_constant e
is_constant (logical_and a b) = is_constant a && is_constant b
is_constant (logical_or a b) = is_constant a && is_constant b
is_constant (choose c a b) = is_constant c && is_constant a && is_constant b
is_constant other = false

abbrev pub truth_of : Bool → ℤ
truth_of holds = if holds then pos 1 else pos 0

abbrev pub computed_from : Operation → Option ℤ → Option ℤ → Option ℤ
computed_from (operation.Numbers op ty) (Some x) (Some y) = computed op (type_of ty) x y
computed_from other x y = None

abbrev pub both_hold : Option ℤ → Option ℤ → Option ℤ
both_hold None y = None
both_hold (Some x) y = if is_zero x then Some (pos 0) else option_map (λ z. truth_of (not (is_zero z))) y

abbrev pub one_holds : Option ℤ → Option ℤ → Option ℤ
one_holds None y = None
one_holds (Some x) y = if is_zero x then option_map (λ z. truth_of (not (is_zero z))) y else Some (pos 1)

abbrev pub chosen_value : Option ℤ → Option ℤ → Option ℤ → Option ℤ
chosen_value None x y = None
chosen_value (Some c) x y = if is_zero c then y else x

-- the value of an expression that is constant, if it is defined; operands that are skipped aren't evaluated
abbrev pub constant_value : PlainExpression → Option ℤ
constant_value (constant z) = Some z
constant_value (convert ty e) = option_map (converted (type_of ty)) (constant_value e)
constant_value (binary op a b) = computed_from op (constant_value a) (constant_value b)
constant_value (logical_not e) = option_map (λ z. truth_of (is_zero z)) (constant_value e)
constant_value (logical_and a b) = both_hold (constant_value a) (constant_value b)
constant_value (logical_or a b) = one_holds (constant_value a) (constant_value b)
constant_value (choose c a b) = chosen_value (constant_value c) (constant_value a) (constant_value b)
constant_value other = None

abbrev pub value_if_constant : PlainExpression → Option ℤ
value_if_constant e = if is_constant e then constant_value e else None

-- ---- sizes of arrays, and of objects

abbrev pub most_elements : ℕ
most_elements = 1048576

abbrev pub most_scalars : ℕ
most_scalars = 16777216

abbrev pub count_from : ℤ → Option ℕ
count_from (pos n) = if nat_le 1 n && nat_le n most_elements then Some n else None
count_from (negsuc n) = None

abbrev pub count_of_value : Option ℤ → Option ℕ
count_of_value (Some z) = count_from z
count_of_value None = None

abbrev pub judged_count : Scope → PlainTree → PlainToken → Checked ℕ
judged_count scope tree behind = do
  x ← valued scope tree
  found_or (if is_integer x.ty then count_of_value (value_if_constant x.core) else None) BadConstant (first_token tree behind)

-- counts beyond the limit are all the same
abbrev pub capped : ℕ → ℕ
capped n = min n (most_scalars + 1)

abbrev pub scalars_of : Option Struct → ℕ
scalars_of (Some s) = s.scalars
scalars_of None = 0

-- how many scalars an object of a type has
abbrev pub scalars_in : List Struct → PlainType → ℕ
scalars_in structs (array_of element count) = capped (count * scalars_in structs element)
scalars_in structs (structure n) = scalars_of (slice_get structs n)
scalars_in structs other = 1

-- so many scalars, and those of one more part
abbrev pub scalars_with : List Struct → ℕ → PlainType → ℕ
scalars_with structs so_far t = capped (so_far + scalars_in structs t)

abbrev pub is_small : List Struct → PlainType → Bool
is_small structs t = nat_le (scalars_in structs t) most_scalars

-- ---- initialisers

-- a part of an initialiser, with its first token
pub record Initial : Type 0 where
  pub path : Path
  pub value : PlainExpression
  pub first : PlainToken

-- The first value of a scalar of a global, with so many globals: a constant expression, the null constant, the address of a global, a
-- global array, or a text.
abbrev pub address_scalar : ℕ → PlainExpression → Option Scalar
address_scalar globals null_constant = Some (pointer null)
address_scalar globals (address (global n)) = Some (pointer (at n []))
address_scalar globals (first_element (global n)) = Some (pointer (at n (part 0 ∷ [])))
address_scalar globals (first_element (literal n)) = Some (pointer (at (globals + n) (part 0 ∷ [])))
address_scalar globals other = None

abbrev pub first_scalar : ℕ → PlainExpression → Option Scalar
first_scalar globals e =
    if is_constant e then option_map number (constant_value e) else address_scalar globals e

abbrev pub members_of : Option Struct → List PlainMember
members_of (Some s) = s.members
members_of None = []

-- the part of an object that the initialiser with this number in braces is for
abbrev pub part_for : List Struct → PlainType → ℕ → Option PlainType
part_for structs (array_of element count) n = if nat_lt n count then Some element else None
part_for structs (structure s) n = option_map (λ m. m.ty) (slice_get (members_of (slice_get structs s)) n)
part_for structs scalar n = if n == 0 then Some scalar else None

abbrev pub path_for : PlainType → Path → ℕ → Path
path_for (array_of element count) path n = part n ∷ path
path_for (structure s) path n = part n ∷ path
path_for scalar path n = path

abbrev pub is_character_type : PlainType → Bool
is_character_type char = true
is_character_type unsigned_char = true
is_character_type other = false

abbrev pub text_parts : PlainType → Path → ℕ → List ℕ → PlainToken → List Initial
text_parts element path n [] first = []
text_parts element path n (byte ∷ rest) first =
    record { path = part n ∷ path; value = constant (converted element (pos byte)); first = first }
    ∷ text_parts element path (suc n) rest first

-- a text that initialises an array of characters: with its last zero, where there is room
abbrev pub text_initial : PlainType → ℕ → Path → List ℕ → PlainToken → Checked (List Initial)
text_initial element count path bytes first = do
  room ← unless_so (nat_le (length bytes) count) BadConstant first
  give (text_parts element path 0 (take count (bytes ++ 0 ∷ [])) first)

-- One initialiser too many is an expression all the same. Where that is refused at the same place, the kind with the lesser number counts.
abbrev pub same_span : PlainSpan → PlainSpan → Bool
same_span a b = a.start == b.start && a.end == b.end

abbrev pub same_place : PlainToken → PlainToken → Bool
same_place a b = a.origin.file == b.origin.file && same_span a.origin.span b.origin.span

abbrev pub is_before_bad_constant : TypeKind → Bool
is_before_bad_constant BadConstant = false
is_before_bad_constant Misplaced = false
is_before_bad_constant other = true

abbrev pub kind_of_excess : PlainToken → Checked Typed → TypeKind
kind_of_excess first (refused kind token) = if same_place token first && is_before_bad_constant kind then kind else BadConstant
kind_of_excess first other = BadConstant

module _ (scope : Scope) (globals : Option ℕ) where
  abbrev pub part_or_excess : Option PlainType → PlainTree → PlainToken → Checked PlainType
  part_or_excess (Some element) tree first = give element
  part_or_excess None tree first = refused (kind_of_excess first (valued scope tree)) first

  -- a global's value must be constant
  abbrev pub is_allowed : PlainExpression → Bool
  is_allowed e = elim globals as (λ x. Bool) [ None ↦ true | Some n ↦ is_some (first_scalar n e) ]

  abbrev pub value_initial : PlainType → Path → PlainTree → PlainToken → Checked (List Initial)
  value_initial ty path tree first = do
    x ← valued scope tree
    core ← found_or (fits_into ty x) BadOperand first
    allowed ← unless_so (is_allowed core) BadConstant first
    give (record { path = path; value = core; first = first } ∷ [])

  abbrev pub whole_initial : PlainType → Path → PlainTree → PlainToken → Checked (List Initial)
  whole_initial (array_of element count) path tree first = do
    x ← valued scope tree
    refused BadOperand first
  whole_initial ty path tree first = value_initial ty path tree first

  abbrev pub text_or_whole : PlainType → Path → PlainTrees → PlainToken → Checked (List Initial)
  text_or_whole (array_of element count) path parts first =
      if is_character_type element
      then or_broken (text_bytes parts) >>= (λ bytes. text_initial element count path bytes first)
      else refused BadOperand first
  text_or_whole ty path parts first = value_initial ty path (node k.Texts parts) first

  -- What an initialiser gives an object of a type, or a part of one at a path: the parts in their order.
  abbrev mutual
    pub initial : PlainType → Path → PlainTree → PlainToken → Checked (List Initial)
    initial ty path (node k.Braces (more brace (more (node kind entries) (more last none)))) behind =
        initial_entries ty path 0 entries behind
    initial ty path (node k.Texts parts) behind =
        text_or_whole ty path parts (first_token (node k.Texts parts) behind)
    initial ty path tree behind = whole_initial ty path tree (first_token tree behind)

    pub initial_entries : PlainType → Path → ℕ → PlainTrees → PlainToken → Checked (List Initial)
    initial_entries ty path n none behind = give []
    initial_entries ty path n (more tree none) behind = do
      element ← part_or_excess (part_for scope.structs ty n) tree (first_token tree behind)
      initial element (path_for ty path n) tree behind
    initial_entries ty path n (more tree (more comma rest)) behind = do
      element ← part_or_excess (part_for scope.structs ty n) tree (first_token tree behind)
      first ← initial element (path_for ty path n) tree behind
      others ← initial_entries ty path (n + 1) rest behind
      give (first ++ others)

-- how many elements an array has that is declared without a size, by its initialiser
abbrev pub counted_by_text : PlainType → PlainTrees → Option ℕ
counted_by_text element parts =
    if is_character_type element then option_map (λ bytes. length bytes + 1) (text_bytes parts) else None

abbrev pub count_by_initialiser : PlainType → PlainTree → Option ℕ
count_by_initialiser element (node k.Braces (more brace (more (node kind entries) (more last none)))) = Some (count_entries entries)
count_by_initialiser element (node k.Texts parts) = counted_by_text element parts
count_by_initialiser element other = None
