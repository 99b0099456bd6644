-- What is the null constant is a number: no operator gives it.
use Rattle.std.proofs.Common.{◌≡◌, ℕ, Bool, true, false, List, [], ◌∷◌, refl, sym, ◌∙◌}
use Rattle.std.specs.Prelude.{IsTrue, ◌&&◌, ◌||◌, ◌==◌, codes, pos, ℤ, if◌then◌else◌}
use Rattle.std.specs.Str.{bytes_eq}
use Rattle.std.proofs.lemmas.Bool.{false≢true}
use Rattle.c_text.specs.Token.{PlainToken}
use Rattle.c_text.specs.Constants.{number_value, digits_of, is_unsigned}
use Rattle.c_types.specs.Types.{PlainType, void, int, pointer_to, array_of}
use Rattle.c_types.specs.Integers.{is_integer, is_in_range}
use Rattle.c_tree.specs.declared.kinds.Kind.{Kind}
use Rattle.c_tree.specs.declared.kinds.Kind.TheVariants as k
use Rattle.core_meaning.specs.declared.refusals.TypeKind.TheVariants.{BadOperand, Incomplete}
use Rattle.core_meaning.specs.declared.expressions.Change.{Change}
use Rattle.core_meaning.specs.declared.expressions.Operation.TheVariants as operation
use Rattle.core_meaning.specs.Program.{PlainExpression, PlainPlace, null_constant, read, address, logical_not, logical_and, logical_or, target, discard, convert, binary, update, assign, choose}
use Rattle.core_meaning.specs.Checking.{Checked, refused, ◌>>=◌, give, found_or, or_broken}
use Rattle.core_meaning.specs.Entities.{Struct, Scope}
use Rattle.core_meaning.specs.Typing.{integer_type, common, promoted, same_type, is_complete, is_struct, is_pointer, is_scalar_type, Designation, value, object, Operand, Typed, typed, of_value, of_object, loaded, loaded_from, fits_into}
use Rattle.core_meaning.specs.Expressions as spec
use Rattle.expression_types.proofs.Sees.{Comes, comes_then, comes_if}

abbrev pub NullIsNumber : Operand → Type 0
NullIsNumber x = IsTrue x.is_null → IsTrue (is_integer x.ty)

abbrev pub NullValueIsNumber : Typed → Type 0
NullValueIsNumber x = IsTrue x.is_null → IsTrue (is_integer x.ty)

-- ---- numbers

abbrev AreNumbers : List PlainType → Type 0
AreNumbers [] = Unit {0}
AreNumbers (t ∷ ts) = (is_integer t ≡ true) × AreNumbers ts

first_is : (ts : List PlainType) (z : ℤ) → AreNumbers ts → is_integer (spec.first_type ts z) ≡ true
first_is [] z h = refl
first_is (t ∷ ts) z h = elim (is_in_range t z) as (λ b. is_integer (if b then t else spec.first_type ts z) ≡ true) [ true ↦ h.0 | false ↦ first_is ts z h.1 ]

are_numbers : (unsigned is_long decimal : Bool) → AreNumbers (spec.number_types unsigned is_long decimal)
are_numbers true true decimal = (refl, tt)
are_numbers true false decimal = (refl, (refl, tt))
are_numbers false true true = (refl, tt)
are_numbers false true false = (refl, (refl, tt))
are_numbers false false true = (refl, (refl, tt))
are_numbers false false false = (refl, (refl, (refl, (refl, tt))))

pub number_is : (text : List ℕ) → is_integer (spec.number_type text) ≡ true
number_is text = first_is (spec.number_types (is_unsigned text) (spec.has_long text) ((digits_of text).base == 10)) (pos (number_value text))
    (are_numbers (is_unsigned text) (spec.has_long text) ((digits_of text).base == 10))

-- ---- values of operands

abbrev not_null : {x : Bool} {A : Type 0} → x ≡ false → IsTrue x → A
not_null e h = absurd (false≢true (sym e ∙ h))

-- a judgement's operand whose is_null is false
abbrev Given : Checked Operand → Type 0
Given m = Comes NullIsNumber m

value_given : (token : PlainToken) (t : PlainType) (core : PlainExpression) → Given (give (of_value token t core))
value_given token t core = λ h. not_null refl h

object_given : (token : PlainToken) (t : PlainType) (place : PlainPlace) (free : Bool) → Given (give (of_object token t place free))
object_given token t place free = λ h. not_null refl h

read_given : (structs : List Struct) (operand : Operand) (t : PlainType) (place : PlainPlace)
    → Comes NullValueIsNumber (if is_complete structs t then give (typed t (read place)) else refused Incomplete operand.stands_at)
read_given structs operand t place = comes_if NullValueIsNumber (is_complete structs t) (give (typed t (read place))) (refused Incomplete operand.stands_at) (λ h. not_null refl h) tt

object_loaded : (structs : List Struct) (operand : Operand) (t : PlainType) (place : PlainPlace) (free : Bool) → Comes NullValueIsNumber (loaded_from structs operand t (object place free))
object_loaded structs operand (array_of element count) place free = λ h. not_null refl h
object_loaded structs operand void place free = λ h. not_null refl h
object_loaded structs operand t place free = read_given structs operand t place

loaded_number : (structs : List Struct) (operand : Operand) (d : Designation) → NullIsNumber operand → Comes NullValueIsNumber (loaded_from structs operand operand.ty d)
loaded_number structs operand (value core) null = null
loaded_number structs operand (object place free) null = object_loaded structs operand operand.ty place free

pub loads_number : (scope : Scope) (operand : Operand) → NullIsNumber operand → Comes NullValueIsNumber (loaded scope operand)
loads_number scope operand null = loaded_number scope.structs operand operand.designates null

-- ---- operators

updated_number : (scope : Scope) (make : Change → PlainPlace → PlainExpression → PlainExpression) (sign : PlainToken) (left : Operand) (place : PlainPlace) (right : Typed)
    → Given (spec.updated scope make sign left place right)
updated_number scope make sign left place right =
    comes_then NullIsNumber (or_broken (spec.compound_operator sign.text))
    (λ op. found_or (spec.change_by left.ty (spec.operation_on scope.structs op (spec.left_value left place) right)) BadOperand sign >>= (λ c. give (of_value sign left.ty (make c place right.core))))
    (λ op. comes_then NullIsNumber (found_or (spec.change_by left.ty (spec.operation_on scope.structs op (spec.left_value left place) right)) BadOperand sign)
    (λ c. give (of_value sign left.ty (make c place right.core))) (λ c. value_given sign left.ty (make c place right.core)))

pub stepped_number : (scope : Scope) (make : Change → PlainPlace → PlainExpression → PlainExpression) (sign : PlainToken) (x : Operand) → Given (spec.stepped scope make sign x)
stepped_number scope make sign x = comes_then NullIsNumber (spec.written_place scope sign x) (λ place. spec.updated scope make sign x place spec.one) (λ place. updated_number scope make sign x place spec.one)

pub assigned_number : (scope : Scope) (sign : PlainToken) (x : Operand) (y : Typed) → Given (spec.written_place scope sign x >>= (λ place. spec.assignment scope sign x place y))
assigned_number scope sign x y =
    comes_then NullIsNumber (spec.written_place scope sign x) (λ place. spec.assignment scope sign x place y)
    (λ place. comes_if NullIsNumber (spec.is_plain_assignment sign) (found_or (fits_into x.ty y) BadOperand sign >>= (λ core. give (of_value sign x.ty (assign place core)))) (spec.updated scope update sign x place y)
    (comes_then NullIsNumber (found_or (fits_into x.ty y) BadOperand sign) (λ core. give (of_value sign x.ty (assign place core))) (λ core. value_given sign x.ty (assign place core)))
    (updated_number scope update sign x place y))

pointed_number : (sign : PlainToken) (t : PlainType) (d : Designation) → Given (spec.pointed_at sign t d)
pointed_number sign t (value core) = tt
pointed_number sign t (object place true) = value_given sign (pointer_to t) (address place)
pointed_number sign t (object place false) = tt

dereferenced_number : (sign : PlainToken) (x : Typed) (t : PlainType) → Given (spec.dereferenced sign x t)
dereferenced_number sign x (pointer_to t) = object_given sign t (target x.core) true
dereferenced_number sign x _ = tt

pub prefixed_number : (scope : Scope) (sign : PlainToken) (x : Operand) → Given (spec.prefixed scope sign x)
prefixed_number scope sign x =
    comes_if NullIsNumber (bytes_eq sign.text (codes "&")) (spec.pointed_at sign x.ty x.designates)
    (if bytes_eq sign.text (codes "*") then loaded scope x >>= (λ x. spec.dereferenced sign x x.ty)
    else if bytes_eq sign.text (codes "!") then loaded scope x >>= spec.negated sign else loaded scope x >>= spec.signed sign)
    (pointed_number sign x.ty x.designates)
    (comes_if NullIsNumber (bytes_eq sign.text (codes "*")) (loaded scope x >>= (λ x. spec.dereferenced sign x x.ty))
    (if bytes_eq sign.text (codes "!") then loaded scope x >>= spec.negated sign else loaded scope x >>= spec.signed sign)
    (comes_then NullIsNumber (loaded scope x) (λ x. spec.dereferenced sign x x.ty) (λ v. dereferenced_number sign v v.ty))
    (comes_if NullIsNumber (bytes_eq sign.text (codes "!")) (loaded scope x >>= spec.negated sign) (loaded scope x >>= spec.signed sign)
    (comes_then NullIsNumber (loaded scope x) (spec.negated sign)
    (λ v. comes_if NullIsNumber (is_scalar_type v.ty) (give (of_value sign int (logical_not v.core))) (refused BadOperand sign) (value_given sign int (logical_not v.core)) tt))
    (comes_then NullIsNumber (loaded scope x) (spec.signed sign)
    (λ v. comes_if NullIsNumber (is_integer v.ty) (give (of_value sign (promoted v.ty) (spec.signed_core sign.text (promoted v.ty) v))) (refused BadOperand sign)
    (value_given sign (promoted v.ty) (spec.signed_core sign.text (promoted v.ty) v)) tt))))

number_cast : (sign : PlainToken) (x : Typed) (t : PlainType) → Given (if is_integer x.ty then give (of_value sign t (convert (integer_type t) x.core)) else refused BadOperand sign)
number_cast sign x t = comes_if NullIsNumber (is_integer x.ty) (give (of_value sign t (convert (integer_type t) x.core))) (refused BadOperand sign) (value_given sign t (convert (integer_type t) x.core)) tt

pub cast_number : (sign : PlainToken) (x : Typed) (t : PlainType) → Given (spec.cast_to sign x t)
cast_number sign x void = value_given sign void (discard (spec.unused x.core))
cast_number sign x t = number_cast sign x t

element_number : (scope : Scope) (sign : PlainToken) (t : PlainType) (core : PlainExpression) → Given (spec.element_target scope sign t core)
element_number scope sign (pointer_to t) core =
    comes_if NullIsNumber (is_complete scope.structs t) (give (of_object sign t (target core) true)) (refused Incomplete sign) (object_given sign t (target core) true) tt
element_number scope sign _ core = tt

pub indexed_number : (scope : Scope) (sign : PlainToken) (a b : Typed) → Given (spec.indexed scope sign a b)
indexed_number scope sign a b =
    comes_if NullIsNumber (is_pointer a.ty && is_integer b.ty) (spec.element_target scope sign a.ty (binary operation.Forward a.core b.core))
    (if is_integer a.ty && is_pointer b.ty then spec.element_target scope sign b.ty (binary operation.ForwardBy a.core b.core) else refused BadOperand sign)
    (element_number scope sign a.ty (binary operation.Forward a.core b.core))
    (comes_if NullIsNumber (is_integer a.ty && is_pointer b.ty) (spec.element_target scope sign b.ty (binary operation.ForwardBy a.core b.core)) (refused BadOperand sign)
    (element_number scope sign b.ty (binary operation.ForwardBy a.core b.core)) tt)

logical_number : (make : PlainExpression → PlainExpression → PlainExpression) (sign : PlainToken) (a b : Typed) → Given (spec.logical make sign a b)
logical_number make sign a b = comes_if NullIsNumber (is_scalar_type a.ty && is_scalar_type b.ty) (give (of_value sign int (make a.core b.core))) (refused BadOperand sign) (value_given sign int (make a.core b.core)) tt

operator_number : (scope : Scope) (sign : PlainToken) (a b : Typed) → Given (or_broken (spec.operator_named sign.text) >>= spec.combined scope sign a b)
operator_number scope sign a b =
    comes_then NullIsNumber (or_broken (spec.operator_named sign.text)) (spec.combined scope sign a b)
    (λ op. comes_then NullIsNumber (found_or (spec.operation_on scope.structs op a b) BadOperand sign)
    (λ o. give (of_value sign (spec.operation_type o a.ty b.ty) (binary o (spec.operand_core o a) (spec.operand_core o b))))
    (λ o. value_given sign (spec.operation_type o a.ty b.ty) (binary o (spec.operand_core o a) (spec.operand_core o b))))

pub combined_number : (scope : Scope) (kind : Kind) (sign : PlainToken) (a b : Typed) → Given (spec.combined_by scope kind sign a b)
combined_number scope k.LogicalAnd sign a b = logical_number logical_and sign a b
combined_number scope k.LogicalOr sign a b = logical_number logical_or sign a b
combined_number scope kind sign a b = operator_number scope sign a b

core_number : (sign : PlainToken) (condition : PlainExpression) (t : PlainType) (a b : PlainExpression) → Given (spec.chosen_core sign condition t a b)
core_number sign condition t a b = value_given sign t (choose condition a b)

pub chosen_number : (sign : PlainToken) (condition : PlainExpression) (a b : Typed) → Given (spec.chosen sign condition a b)
chosen_number sign condition a b =
    comes_if NullIsNumber (is_integer a.ty && is_integer b.ty) (spec.chosen_core sign condition (common a.ty b.ty) (spec.converted_to (common a.ty b.ty) a) (spec.converted_to (common a.ty b.ty) b))
    (if spec.is_void a.ty && spec.is_void b.ty then spec.chosen_core sign condition void a.core b.core
    else if (is_struct a.ty || is_pointer a.ty) && same_type a.ty b.ty then spec.chosen_core sign condition a.ty a.core b.core
    else if is_pointer a.ty && b.is_null then spec.chosen_core sign condition a.ty a.core null_constant
    else if a.is_null && is_pointer b.ty then spec.chosen_core sign condition b.ty null_constant b.core
    else refused BadOperand sign)
    (core_number sign condition (common a.ty b.ty) (spec.converted_to (common a.ty b.ty) a) (spec.converted_to (common a.ty b.ty) b))
    (comes_if NullIsNumber (spec.is_void a.ty && spec.is_void b.ty) (spec.chosen_core sign condition void a.core b.core)
    (if (is_struct a.ty || is_pointer a.ty) && same_type a.ty b.ty then spec.chosen_core sign condition a.ty a.core b.core
    else if is_pointer a.ty && b.is_null then spec.chosen_core sign condition a.ty a.core null_constant
    else if a.is_null && is_pointer b.ty then spec.chosen_core sign condition b.ty null_constant b.core
    else refused BadOperand sign)
    (core_number sign condition void a.core b.core)
    (comes_if NullIsNumber ((is_struct a.ty || is_pointer a.ty) && same_type a.ty b.ty) (spec.chosen_core sign condition a.ty a.core b.core)
    (if is_pointer a.ty && b.is_null then spec.chosen_core sign condition a.ty a.core null_constant
    else if a.is_null && is_pointer b.ty then spec.chosen_core sign condition b.ty null_constant b.core
    else refused BadOperand sign)
    (core_number sign condition a.ty a.core b.core)
    (comes_if NullIsNumber (is_pointer a.ty && b.is_null) (spec.chosen_core sign condition a.ty a.core null_constant)
    (if a.is_null && is_pointer b.ty then spec.chosen_core sign condition b.ty null_constant b.core else refused BadOperand sign)
    (core_number sign condition a.ty a.core null_constant)
    (comes_if NullIsNumber (a.is_null && is_pointer b.ty) (spec.chosen_core sign condition b.ty null_constant b.core) (refused BadOperand sign)
    (core_number sign condition b.ty null_constant b.core) tt))))
