-- Conditions, and values that fit types.
use Rattle.std.proofs.Common.{◌≡◌, Bool, true, false, List, refl, ap, ◌∙◌}
use Rattle.std.specs.Prelude.{◌&&◌, ◌||◌, Some, None, if◌then◌else◌}
use Rattle.c_text.specs.Token.{PlainToken}
use Rattle.c_types.specs.Types.{PlainType, void, char, unsigned_char, int, unsigned_int, long, unsigned_long, pointer_to, array_of, structure}
use Rattle.c_types.specs.Integers.{is_integer}
use Rattle.core_meaning.specs.Program.{PlainExpression, null_constant}
use Rattle.core_meaning.specs.declared.refusals.TypeKind.TheVariants.{BadOperand}
use Rattle.core_meaning.specs.Checking as judged
use Rattle.core_meaning.specs.Checking.{give, found_or}
use Rattle.core_meaning.specs.Entities.{Struct}
use Rattle.core_meaning.specs.Typing.{is_scalar_type, is_pointer, is_struct, same_type, number_in_type, Typed, loaded, fits_into}
use Rattle.conditional.specs.Judgements.{fine, refused, bind}
use Rattle.operand_types.specs.OperandTypes.{OperandType, Category, rvalue, lvalue, type_of_value, structs_for, scope_for, an_operand}
use Rattle.operand_types.specs.Operators.{same_number, test_outcome, tested_type, fitted_type}
use Rattle.operand_types.proofs.Renumbered.{renumbered_same}
use Rattle.operand_rules.specs.PlainOperandTypes.{accepted}
use Rattle.operand_rules.specs.Rules.{loaded_object, loaded_as, tests_object, tests_as, fits, fits_object, fits_as}
use Rattle.operand_rules.proofs.Loads.{outcome_bind, loads}

test_if : (first : PlainToken) (b : Bool) (core : PlainExpression) → test_outcome (if b then give core else judged.refused BadOperand first) ≡ accepted b
test_if first true core = refl
test_if first false core = refl

refused_either : (b : Bool) (f : OperandType → Bool) (x : OperandType) → f x ≡ false → bind (if b then fine x else refused tt) (λ x. accepted (f x)) ≡ accepted false
refused_either true f x h = ap accepted h
refused_either false f x h = refl

struct_fits : (b : Bool) (f : OperandType → Bool) (x : OperandType) → bind (if b then fine x else refused tt) (λ x. accepted (f x)) ≡ accepted (b && f x)
struct_fits true f x = refl
struct_fits false f x = refl

-- ---- conditions

abbrev scalar : OperandType → Bool
scalar x = is_scalar_type x.ty

tests_value : (first : PlainToken) (structs : List Struct) (x : Typed) → test_outcome (if is_scalar_type x.ty then give x.core else judged.refused BadOperand first) ≡ accepted (scalar (type_of_value same_number structs x))
tests_value first structs x = rw (renumbered_same x.ty) (test_if first (is_scalar_type x.ty) x.core)

object_tests : (o : OperandType) (t : PlainType) → bind (loaded_object o t) (λ x. accepted (scalar x)) ≡ accepted (tests_object t)
object_tests o void = refl
object_tests o char = refl
object_tests o unsigned_char = refl
object_tests o int = refl
object_tests o unsigned_int = refl
object_tests o long = refl
object_tests o unsigned_long = refl
object_tests o (pointer_to t) = refl
object_tests o (array_of t count) = refl
object_tests o (structure n) = refused_either o.has_complete_struct scalar _ refl

rule_tests : (o : OperandType) (category : Category) → bind (loaded_as o category) (λ x. accepted (scalar x)) ≡ accepted (tests_as category o.ty)
rule_tests o rvalue = refl
rule_tests o (lvalue free) = object_tests o o.ty

pub tests : (first : PlainToken) (o : OperandType) → tested_type first o ≡ accepted (tests_as o.category o.ty)
tests first o =
    outcome_bind (λ core. tt) (type_of_value same_number (structs_for o)) (λ x. if is_scalar_type x.ty then give x.core else judged.refused BadOperand first) (λ x. accepted (scalar x)) (tests_value first (structs_for o)) (loaded (scope_for o) (an_operand first o))
    ∙ ap (λ c. bind c (λ x. accepted (scalar x))) (loads first o)
    ∙ rule_tests o o.category

-- ---- values that fit

abbrev fitting : PlainType → OperandType → Bool
fitting ty x = fits ty x.ty x.is_null

fits_by : (first : PlainToken) (a b c : Bool) (d e f : PlainExpression) → test_outcome (found_or (if a then Some d else if b then Some e else if c then Some f else None) BadOperand first) ≡ accepted (a || (b || c))
fits_by first true b c d e f = refl
fits_by first false true c d e f = refl
fits_by first false false true d e f = refl
fits_by first false false false d e f = refl

fits_value : (first : PlainToken) (structs : List Struct) (ty : PlainType) (x : Typed) → test_outcome (found_or (fits_into ty x) BadOperand first) ≡ accepted (fitting ty (type_of_value same_number structs x))
fits_value first structs ty x = rw (renumbered_same x.ty) (fits_by first (is_integer ty && is_integer x.ty) (is_pointer ty && x.is_null) ((is_pointer ty || is_struct ty) && same_type ty x.ty) (number_in_type ty x) null_constant x.core)

object_fits : (ty : PlainType) (o : OperandType) (t : PlainType) → bind (loaded_object o t) (λ x. accepted (fitting ty x)) ≡ accepted (fits_object ty o.has_complete_struct t)
object_fits ty o void = refl
object_fits ty o char = refl
object_fits ty o unsigned_char = refl
object_fits ty o int = refl
object_fits ty o unsigned_int = refl
object_fits ty o long = refl
object_fits ty o unsigned_long = refl
object_fits ty o (pointer_to t) = refl
object_fits ty o (array_of t count) = refl
object_fits ty o (structure n) = struct_fits o.has_complete_struct (fitting ty) _

rule_fits : (ty : PlainType) (o : OperandType) (category : Category) → bind (loaded_as o category) (λ x. accepted (fitting ty x)) ≡ accepted (fits_as ty o category)
rule_fits ty o rvalue = refl
rule_fits ty o (lvalue free) = object_fits ty o o.ty

pub fitted : (first : PlainToken) (ty : PlainType) (o : OperandType) → fitted_type first ty o ≡ accepted (fits_as ty o o.category)
fitted first ty o =
    outcome_bind (λ core. tt) (type_of_value same_number (structs_for o)) (λ x. found_or (fits_into ty x) BadOperand first) (λ x. accepted (fitting ty x)) (fits_value first (structs_for o) ty) (loaded (scope_for o) (an_operand first o))
    ∙ ap (λ c. bind c (λ x. accepted (fitting ty x))) (loads first o)
    ∙ rule_fits ty o o.category
