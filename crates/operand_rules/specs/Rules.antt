-- The rules for types by cases, which operators follow (ISO/IEC 9899:2011, 6.3.2, 6.5): an aid of proofs, no further definition. That they are those of
-- `operand_types` is what the contracts say.
use Rattle.std.specs.Prelude.{ℕ, Bool, true, false, not, ◌&&◌, ◌||◌, List, codes, Option, Some, None, is_some, if◌then◌else◌, IsTrue}
use Rattle.std.specs.Str.{bytes_eq}
use Rattle.c_text.specs.Token.{PlainToken}
use Rattle.c_types.specs.declared.arithmetic.BinaryOp.{BinaryOp}
use Rattle.c_types.specs.declared.arithmetic.BinaryOp.TheVariants.{Add, Sub}
use Rattle.c_types.specs.Types.{PlainType, void, int, long, pointer_to, array_of, structure}
use Rattle.c_types.specs.Integers.{is_integer}
use Rattle.c_tree.specs.declared.kinds.Kind.{Kind}
use Rattle.c_tree.specs.declared.kinds.Kind.TheVariants as k
use Rattle.core_meaning.specs.Typing.{promoted, common, same_type, is_struct, is_pointer, is_scalar_type}
use Rattle.core_meaning.specs.Expressions.{operator_named, compound_operator, are_comparable, result_type, may_be_assigned, is_plain_assignment, is_void}
use Rattle.conditional.specs.Judgements.{Checked, fine, refused, bind}
use Rattle.operand_types.specs.OperandTypes.{OperandType, Category, rvalue, lvalue, struct_in, a_value}

abbrev pub has_struct : PlainType → Bool
has_struct t = is_some (struct_in t)

-- an operand whose type is made of the struct of another operand or of none
abbrev pub derived : OperandType → PlainType → Category → OperandType
derived o t category = record {
  ty = t;
  category = category;
  is_null = false;
  has_complete_struct = not (has_struct t) || o.has_complete_struct;
}

-- a value of such a type
abbrev pub given : OperandType → PlainType → Checked OperandType (Unit {0})
given o t = fine (derived o t rvalue)

-- ---- types whose struct is complete or not

abbrev pub completes : Bool → PlainType → Bool
completes complete void = false
completes complete (structure n) = complete
completes complete t = true

abbrev pub moves_over : Bool → PlainType → Bool
moves_over complete (array_of t count) = false
moves_over complete t = completes complete t

-- a pointer that may be moved
abbrev pub moves : Bool → PlainType → Bool
moves complete (pointer_to t) = moves_over complete t
moves complete t = false

-- ---- values (6.3.2.1)

abbrev pub own_value : OperandType → OperandType
own_value o = record (derived o o.ty rvalue) { is_null = o.is_null }

abbrev pub loaded_object : OperandType → PlainType → Checked OperandType (Unit {0})
loaded_object o (array_of t count) = given o (pointer_to t)
loaded_object o (structure n) = if o.has_complete_struct then given o (structure n) else refused tt
loaded_object o t = given o t

abbrev pub loaded_as : OperandType → Category → Checked OperandType (Unit {0})
loaded_as o rvalue = fine (own_value o)
loaded_as o (lvalue free) = loaded_object o o.ty

abbrev pub loaded_rule : OperandType → Checked OperandType (Unit {0})
loaded_rule o = loaded_as o o.category

-- a condition is a scalar
abbrev pub tests_object : PlainType → Bool
tests_object (array_of t count) = is_pointer (pointer_to t)
tests_object t = is_scalar_type t

abbrev pub tests_as : Category → PlainType → Bool
tests_as rvalue t = is_scalar_type t
tests_as (lvalue free) t = tests_object t

-- whether a value of the second type may be assigned as one of the first; and whether it is the null constant (6.5.16.1)
abbrev pub fits : PlainType → PlainType → Bool → Bool
fits ty t is_null =
    (is_integer ty && is_integer t) || ((is_pointer ty && is_null) || ((is_pointer ty || is_struct ty) && same_type ty t))

abbrev pub fits_object : PlainType → Bool → PlainType → Bool
fits_object ty complete (array_of t count) = fits ty (pointer_to t) false
fits_object ty complete (structure n) = complete && fits ty (structure n) false
fits_object ty complete t = fits ty t false

abbrev pub fits_as : PlainType → OperandType → Category → Bool
fits_as ty o rvalue = fits ty o.ty o.is_null
fits_as ty o (lvalue free) = fits_object ty o.has_complete_struct o.ty

-- ---- one operand (6.5.3, 6.5.4)

abbrev pub target_of : OperandType → PlainType → Checked OperandType (Unit {0})
target_of o (pointer_to t) = fine (derived o t (lvalue true))
target_of o t = refused tt

abbrev pub address_of : OperandType → Category → Checked OperandType (Unit {0})
address_of o (lvalue true) = given o (pointer_to o.ty)
address_of o category = refused tt

abbrev pub on_value : List ℕ → OperandType → Checked OperandType (Unit {0})
on_value text x =
    if bytes_eq text (codes "*") then target_of x x.ty
    else if bytes_eq text (codes "!") then (if is_scalar_type x.ty then given x int else refused tt)
    else if is_integer x.ty then given x (promoted x.ty) else refused tt

abbrev pub prefixed_rule : List ℕ → OperandType → Checked OperandType (Unit {0})
prefixed_rule text o =
    if bytes_eq text (codes "&") then address_of o o.category else bind (loaded_rule o) (on_value text)

abbrev pub cast_rule : PlainType → OperandType → Checked OperandType (Unit {0})
cast_rule ty o =
    if is_void ty then given o void else if is_integer o.ty then given o ty else refused tt

-- ---- assignments (6.5.2.4, 6.5.16)

abbrev pub is_free : Category → Bool
is_free rvalue = false
is_free (lvalue free) = free

abbrev pub may_write : PlainToken → OperandType → Bool
may_write sign o =
    is_free o.category && (may_be_assigned o.ty && (is_plain_assignment sign || completes o.has_complete_struct o.ty))

abbrev pub is_sum : BinaryOp → Bool
is_sum Add = true
is_sum Sub = true
is_sum op = false

abbrev pub changes : BinaryOp → OperandType → PlainType → Bool
changes op o by = is_integer by && (is_integer o.ty || (is_sum op && moves o.has_complete_struct o.ty))

abbrev pub changed : Option BinaryOp → OperandType → PlainType → Checked OperandType (Unit {0})
changed None o by = refused tt
changed (Some op) o by = if changes op o by then given o o.ty else refused tt

abbrev pub updated : PlainToken → OperandType → PlainType → Checked OperandType (Unit {0})
updated sign o by = changed (compound_operator sign.text) o by

abbrev pub stepped_rule : PlainToken → OperandType → Checked OperandType (Unit {0})
stepped_rule sign o = if may_write sign o then updated sign o int else refused tt

abbrev pub assignment : PlainToken → OperandType → OperandType → Checked OperandType (Unit {0})
assignment sign o p =
    if is_plain_assignment sign then (if fits o.ty p.ty p.is_null then given o o.ty else refused tt)
    else updated sign o p.ty

abbrev pub assigned_rule : PlainToken → OperandType → OperandType → Checked OperandType (Unit {0})
assigned_rule sign o p = if may_write sign o then assignment sign o p else refused tt

-- ---- two values (6.5.2.1, 6.5.5 to 6.5.15)

abbrev pub on_scalars : OperandType → OperandType → Checked OperandType (Unit {0})
on_scalars o p = if is_scalar_type o.ty && is_scalar_type p.ty then given o int else refused tt

abbrev pub moved : OperandType → Bool
moved o = moves o.has_complete_struct o.ty

abbrev pub added : OperandType → OperandType → Checked OperandType (Unit {0})
added o p =
    if moved o && is_integer p.ty then given o o.ty
    else if is_integer o.ty && moved p then given p p.ty else refused tt

abbrev pub subtracted : OperandType → OperandType → Checked OperandType (Unit {0})
subtracted o p =
    if moved o && is_integer p.ty then given o o.ty
    else if moved o && same_type o.ty p.ty then given o long else refused tt

abbrev pub on_pointers : BinaryOp → OperandType → OperandType → Checked OperandType (Unit {0})
on_pointers Add o p = added o p
on_pointers Sub o p = subtracted o p
on_pointers op o p = if are_comparable op (a_value o) (a_value p) then given o int else refused tt

abbrev pub operated : Option BinaryOp → OperandType → OperandType → Checked OperandType (Unit {0})
operated None o p = refused tt
operated (Some op) o p =
    if is_integer o.ty && is_integer p.ty then given o (result_type op o.ty p.ty) else on_pointers op o p

abbrev pub is_logical : Kind → Bool
is_logical k.LogicalAnd = true
is_logical k.LogicalOr = true
is_logical kind = false

abbrev pub combined_rule : Kind → PlainToken → OperandType → OperandType → Checked OperandType (Unit {0})
combined_rule kind sign o p =
    if is_logical kind then on_scalars o p else operated (operator_named sign.text) o p

abbrev pub element : OperandType → Checked OperandType (Unit {0})
element o = if moved o then target_of o o.ty else refused tt

abbrev pub indexed_rule : OperandType → OperandType → Checked OperandType (Unit {0})
indexed_rule o p =
    if is_pointer o.ty && is_integer p.ty then element o
    else if is_integer o.ty && is_pointer p.ty then element p else refused tt

abbrev pub chosen_or_null : OperandType → OperandType → Checked OperandType (Unit {0})
chosen_or_null o p =
    if is_pointer o.ty && p.is_null then given o o.ty
    else if o.is_null && is_pointer p.ty then given p p.ty else refused tt

abbrev pub chosen_same : OperandType → OperandType → Checked OperandType (Unit {0})
chosen_same o p =
    if (is_struct o.ty || is_pointer o.ty) && same_type o.ty p.ty then given o o.ty else chosen_or_null o p

abbrev pub chosen_rule : OperandType → OperandType → Checked OperandType (Unit {0})
chosen_rule o p =
    if is_integer o.ty && is_integer p.ty then given o (common o.ty p.ty)
    else if is_void o.ty && is_void p.ty then given o void else chosen_same o p

-- what is the null constant is a number
abbrev pub IsNumberIfNull : OperandType → Type 0
IsNumberIfNull o = IsTrue o.is_null → IsTrue (is_integer o.ty)
