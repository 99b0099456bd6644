-- Operators between two values, elements, and the results of `?:`.
use Rattle.std.proofs.Common.{◌≡◌, ℕ, Bool, true, false, List, [], refl, ap, ◌∙◌}
use Rattle.std.specs.Prelude.{◌&&◌, ◌||◌, nat_le, Option, Some, None, slice_get, if◌then◌else◌}
use Rattle.std.proofs.lemmas.Bool.{false≢true}
use Rattle.c_text.specs.Token.{PlainToken}
use Rattle.c_types.specs.declared.arithmetic.BinaryOp.{BinaryOp}
use Rattle.c_types.specs.declared.arithmetic.BinaryOp.TheVariants.{Add, Sub}
use Rattle.c_types.specs.Types.{PlainType, void, char, unsigned_char, int, unsigned_int, long, unsigned_long, pointer_to, array_of, structure}
use Rattle.c_types.specs.Integers.{is_integer}
use Rattle.c_tree.specs.declared.kinds.Kind.{Kind}
use Rattle.c_tree.specs.declared.kinds.Kind.TheVariants as k
use Rattle.core_meaning.specs.declared.expressions.Operation.{Operation}
use Rattle.core_meaning.specs.declared.expressions.Operation.TheVariants as operation
use Rattle.core_meaning.specs.declared.refusals.TypeKind.TheVariants.{BadOperand, Incomplete}
use Rattle.core_meaning.specs.Program.{PlainExpression, binary, target}
use Rattle.core_meaning.specs.Checking as judged
use Rattle.core_meaning.specs.Checking.{give, found_or, or_broken, ◌>>=◌}
use Rattle.core_meaning.specs.Entities.{Struct}
use Rattle.core_meaning.specs.Typing.{promoted, rank, common, is_complete_struct, is_movable, is_pointer, is_struct, is_scalar_type, same_type, Operand, Typed, of_value, of_object}
use Rattle.core_meaning.specs.Expressions as spec
use Rattle.core_meaning.specs.Expressions.{operator_named, operation_on, operation_type, operand_core, on_numbers, pointer_operation, are_comparable, result_type, is_order, is_equality, is_shift_operator, combined, element_target, is_void}
use Rattle.conditional.specs.Judgements.{Checked, fine, refused}
use Rattle.operand_types.specs.OperandTypes.{OperandType, rvalue, struct_in, outcome_as, type_of_operand, scope_with, structs_for, asked_of, a_value, any_core}
use Rattle.operand_types.specs.Operators.{same_number, combined_type, indexed_type, chosen_type}
use Rattle.operand_types.proofs.Renumbered.{integer_no_struct, promoted_no_struct}
use Rattle.operand_rules.specs.Rules.{derived, given, moves, moved, target_of, added, subtracted, on_pointers, operated, combined_rule, element, indexed_rule, chosen_rule, IsNumberIfNull}
use Rattle.operand_rules.proofs.Knowledge.{Knows, knows_none, knows_left, knows_right, knows_target, moves_known, seen, seen_form, object_form}
use Rattle.operand_rules.proofs.Loads.{outcome_with, outcome_if}

abbrev operand_seen : List Struct → judged.Checked Operand → Checked OperandType (Unit {0})
operand_seen structs x = outcome_as (type_of_operand same_number structs) x

-- ---- what is known of two operands

-- the structs of two operands: those of the first, or of the second where the first has none
record Asks (structs : List Struct) (o p : OperandType) : Type 0 where
  pub left : Knows structs o.has_complete_struct o.ty
  pub right : struct_in o.ty ≡ None → Knows structs p.has_complete_struct p.ty

asks : (o p : OperandType) → Asks (structs_for (asked_of o p)) o p
asks o p = record { left = knows_left o p; right = knows_right o p }

left_of : (a b : Bool) → (a && b) ≡ true → a ≡ true
left_of true b h = refl
left_of false b h = h

right_of : (a b : Bool) → (a && b) ≡ true → b ≡ true
right_of true b h = h
right_of false b h = absurd (false≢true h)

and_when : (a b c : Bool) → (a ≡ true → b ≡ c) → (a && b) ≡ (a && c)
and_when true b c h = h refl
and_when false b c h = refl

no_struct_form : (structs : List Struct) (o : OperandType) (t : PlainType) → struct_in t ≡ None → seen structs t ≡ derived o t rvalue
no_struct_form structs o t h = seen_form structs o t (knows_none structs o.has_complete_struct t h)

one_of_types : (b : Bool) (s t : PlainType) → struct_in s ≡ None → struct_in t ≡ None → struct_in (if b then s else t) ≡ None
one_of_types true s t hs ht = hs
one_of_types false s t hs ht = ht

common_no_struct : (s t : PlainType) → is_integer s ≡ true → is_integer t ≡ true → struct_in (common s t) ≡ None
common_no_struct s t hs ht =
    one_of_types (nat_le (rank (promoted s)) (rank (promoted t))) (promoted t) (promoted s) (promoted_no_struct t (integer_no_struct t ht)) (promoted_no_struct s (integer_no_struct s hs))

result_no_struct : (op : BinaryOp) (s t : PlainType) → is_integer s ≡ true → is_integer t ≡ true → struct_in (result_type op s t) ≡ None
result_no_struct op s t hs ht =
    one_of_types (is_order op || is_equality op) int (spec.computing_type op s t) refl
    (one_of_types (is_shift_operator op) (promoted s) (common s t) (promoted_no_struct s (integer_no_struct s hs)) (common_no_struct s t hs ht))

-- ---- operations

abbrev by_operation : List Struct → PlainType → PlainType → Option Operation → Checked OperandType (Unit {0})
by_operation structs s t None = refused tt
by_operation structs s t (Some q) = fine (seen structs (operation_type q s t))

operation_outcome : (structs : List Struct) (sign : PlainToken) (a b : Typed) (found : Option Operation)
    → operand_seen structs (found_or found BadOperand sign >>= (λ q. give (of_value sign (operation_type q a.ty b.ty) (binary q (operand_core q a) (operand_core q b))))) ≡ by_operation structs a.ty b.ty found
operation_outcome structs sign a b None = refl
operation_outcome structs sign a b (Some q) = refl

two_operations : (structs : List Struct) (s t : PlainType) (b c : Bool) (q r : Operation) (x y : OperandType)
    → seen structs (operation_type q s t) ≡ x → (c ≡ true → seen structs (operation_type r s t) ≡ y)
    → by_operation structs s t (if b then Some q else if c then Some r else None) ≡ (if b then fine x else if c then fine y else refused tt)
two_operations structs s t true c q r x y hx hy = ap fine hx
two_operations structs s t false true q r x y hx hy = ap fine (hy refl)
two_operations structs s t false false q r x y hx hy = refl

comparison : (structs : List Struct) (o : OperandType) (s t : PlainType) (op : BinaryOp) (b : Bool)
    → by_operation structs s t (if b then Some (operation.Pointers op) else None) ≡ (if b then given o int else refused tt)
comparison structs o s t op true = refl
comparison structs o s t op false = refl

adds : (structs : List Struct) (o p : OperandType) → Asks structs o p → by_operation structs o.ty p.ty (pointer_operation structs Add (a_value o) (a_value p)) ≡ added o p
adds structs o p h =
    rw (moves_known structs o.has_complete_struct o.ty h.left)
    (rw (and_when (is_integer o.ty) (is_movable structs p.ty) (moved p) (λ i. moves_known structs p.has_complete_struct p.ty (h.right (integer_no_struct o.ty i))))
    (two_operations structs o.ty p.ty (moved o && is_integer p.ty) (is_integer o.ty && moved p) operation.Forward operation.ForwardBy (derived o o.ty rvalue) (derived p p.ty rvalue)
    (seen_form structs o o.ty h.left)
    (λ i. seen_form structs p p.ty (h.right (integer_no_struct o.ty (left_of (is_integer o.ty) (moved p) i))))))

subtracts : (structs : List Struct) (o p : OperandType) → Asks structs o p → by_operation structs o.ty p.ty (pointer_operation structs Sub (a_value o) (a_value p)) ≡ subtracted o p
subtracts structs o p h =
    rw (moves_known structs o.has_complete_struct o.ty h.left)
    (two_operations structs o.ty p.ty (moved o && is_integer p.ty) (moved o && same_type o.ty p.ty) operation.Back operation.Distance (derived o o.ty rvalue) (derived o long rvalue)
    (seen_form structs o o.ty h.left) (λ i. refl))

operates_on_pointers : (structs : List Struct) (o p : OperandType) (op : BinaryOp) → Asks structs o p → by_operation structs o.ty p.ty (pointer_operation structs op (a_value o) (a_value p)) ≡ on_pointers op o p
operates_on_pointers structs o p Add h = adds structs o p h
operates_on_pointers structs o p Sub h = subtracts structs o p h
operates_on_pointers structs o p op h = comparison structs o o.ty p.ty op (are_comparable op (a_value o) (a_value p))

numbers_or : (structs : List Struct) (s t : PlainType) (b : Bool) (q : Operation) (r : Option Operation) (x : OperandType) (y : Checked OperandType (Unit {0}))
    → (b ≡ true → seen structs (operation_type q s t) ≡ x) → by_operation structs s t r ≡ y → by_operation structs s t (if b then Some q else r) ≡ (if b then fine x else y)
numbers_or structs s t true q r x y hx hy = ap fine (hx refl)
numbers_or structs s t false q r x y hx hy = hy

operates_by : (sign : PlainToken) (o p : OperandType) (structs : List Struct) (found : Option BinaryOp) → Asks structs o p
    → operand_seen structs (or_broken found >>= combined (scope_with structs) sign (a_value o) (a_value p)) ≡ operated found o p
operates_by sign o p structs None h = refl
operates_by sign o p structs (Some op) h =
    outcome_with (type_of_operand same_number structs) [] _
    ∙ operation_outcome structs sign (a_value o) (a_value p) (operation_on structs op (a_value o) (a_value p))
    ∙ numbers_or structs o.ty p.ty (is_integer o.ty && is_integer p.ty) (on_numbers op o.ty p.ty) (pointer_operation structs op (a_value o) (a_value p)) (derived o (result_type op o.ty p.ty) rvalue) (on_pointers op o p)
    (λ i. no_struct_form structs o (result_type op o.ty p.ty) (result_no_struct op o.ty p.ty (left_of (is_integer o.ty) (is_integer p.ty) i) (right_of (is_integer o.ty) (is_integer p.ty) i)))
    (operates_on_pointers structs o p op h)

operates : (sign : PlainToken) (o p : OperandType)
    → operand_seen (structs_for (asked_of o p)) (or_broken (operator_named sign.text) >>= combined (scope_with (structs_for (asked_of o p))) sign (a_value o) (a_value p)) ≡ operated (operator_named sign.text) o p
operates sign o p = operates_by sign o p (structs_for (asked_of o p)) (operator_named sign.text) (asks o p)

pub combines : (kind : Kind) (sign : PlainToken) (o p : OperandType) → combined_type kind sign o p ≡ combined_rule kind sign o p
combines k.LogicalAnd sign o p = outcome_if (type_of_operand same_number (structs_for (asked_of o p))) (is_scalar_type o.ty && is_scalar_type p.ty) _ _
combines k.LogicalOr sign o p = outcome_if (type_of_operand same_number (structs_for (asked_of o p))) (is_scalar_type o.ty && is_scalar_type p.ty) _ _
combines kind sign o p = operates sign o p

-- ---- elements

struct_element : (structs : List Struct) (o : OperandType) (sign : PlainToken) (core : PlainExpression) (n : ℕ) → Knows structs o.has_complete_struct (structure n)
    → operand_seen structs (element_target (scope_with structs) sign (pointer_to (structure n)) core) ≡ (if moves o.has_complete_struct (pointer_to (structure n)) then target_of o (pointer_to (structure n)) else refused tt)
struct_element structs o sign core n h =
    outcome_if (type_of_operand same_number structs) (is_complete_struct (slice_get structs n)) (of_object sign (structure n) (target core) true) (judged.refused Incomplete sign)
    ∙ ap (λ b. if b then fine (type_of_operand same_number structs (of_object sign (structure n) (target core) true)) else refused tt) h.known
    ∙ ap (λ v. if o.has_complete_struct then fine v else refused tt) (object_form structs o sign (structure n) (target core) true h)

has_element : (structs : List Struct) (o : OperandType) (sign : PlainToken) (core : PlainExpression) (t : PlainType) → Knows structs o.has_complete_struct t → is_pointer t ≡ true
    → operand_seen structs (element_target (scope_with structs) sign t core) ≡ (if moves o.has_complete_struct t then target_of o t else refused tt)
has_element structs o sign core void h i = refl
has_element structs o sign core char h i = refl
has_element structs o sign core unsigned_char h i = refl
has_element structs o sign core int h i = refl
has_element structs o sign core unsigned_int h i = refl
has_element structs o sign core long h i = refl
has_element structs o sign core unsigned_long h i = refl
has_element structs o sign core (array_of t count) h i = refl
has_element structs o sign core (structure n) h i = refl
has_element structs o sign core (pointer_to void) h i = refl
has_element structs o sign core (pointer_to char) h i = refl
has_element structs o sign core (pointer_to unsigned_char) h i = refl
has_element structs o sign core (pointer_to int) h i = refl
has_element structs o sign core (pointer_to unsigned_int) h i = refl
has_element structs o sign core (pointer_to long) h i = refl
has_element structs o sign core (pointer_to unsigned_long) h i = refl
has_element structs o sign core (pointer_to (pointer_to t)) h i = ap fine (object_form structs o sign (pointer_to t) (target core) true (knows_target structs o.has_complete_struct (pointer_to t) h))
has_element structs o sign core (pointer_to (array_of t count)) h i = absurd (false≢true i)
has_element structs o sign core (pointer_to (structure n)) h i = struct_element structs o sign core n (knows_target structs o.has_complete_struct (structure n) h)

either_element : (structs : List Struct) (sign : PlainToken) (b c : Bool) (x y : judged.Checked Operand) (x' y' : Checked OperandType (Unit {0}))
    → (b ≡ true → operand_seen structs x ≡ x') → (c ≡ true → operand_seen structs y ≡ y')
    → operand_seen structs (if b then x else if c then y else judged.refused BadOperand sign) ≡ (if b then x' else if c then y' else refused tt)
either_element structs sign true c x y x' y' hx hy = hx refl
either_element structs sign false true x y x' y' hx hy = hy refl
either_element structs sign false false x y x' y' hx hy = refl

indexes_by : (bracket : PlainToken) (o p : OperandType) (structs : List Struct) → Asks structs o p
    → operand_seen structs (spec.indexed (scope_with structs) bracket (a_value o) (a_value p)) ≡ indexed_rule o p
indexes_by bracket o p structs h =
    either_element structs bracket (is_pointer o.ty && is_integer p.ty) (is_integer o.ty && is_pointer p.ty) _ _ (element o) (element p)
    (λ i. has_element structs o bracket _ o.ty h.left (left_of (is_pointer o.ty) (is_integer p.ty) i))
    (λ i. has_element structs p bracket _ p.ty (h.right (integer_no_struct o.ty (left_of (is_integer o.ty) (is_pointer p.ty) i))) (right_of (is_integer o.ty) (is_pointer p.ty) i))

pub indexes : (bracket : PlainToken) (o p : OperandType) → indexed_type bracket o p ≡ indexed_rule o p
indexes bracket o p = indexes_by bracket o p (structs_for (asked_of o p)) (asks o p)

-- ---- the results of `?:`

given_or : (structs : List Struct) (b : Bool) (x : Operand) (c : judged.Checked Operand) (x' : OperandType) (c' : Checked OperandType (Unit {0}))
    → (b ≡ true → type_of_operand same_number structs x ≡ x') → operand_seen structs c ≡ c'
    → operand_seen structs (if b then give x else c) ≡ (if b then fine x' else c')
given_or structs true x c x' c' hx hc = ap fine (hx refl)
given_or structs false x c x' c' hx hc = hc

chooses_by : (question : PlainToken) (o p : OperandType) (structs : List Struct) → Asks structs o p → IsNumberIfNull o
    → operand_seen structs (spec.chosen question any_core (a_value o) (a_value p)) ≡ chosen_rule o p
chooses_by question o p structs h number =
    given_or structs (is_integer o.ty && is_integer p.ty) _ _ (derived o (common o.ty p.ty) rvalue) _
    (λ i. no_struct_form structs o (common o.ty p.ty) (common_no_struct o.ty p.ty (left_of (is_integer o.ty) (is_integer p.ty) i) (right_of (is_integer o.ty) (is_integer p.ty) i)))
    (given_or structs (is_void o.ty && is_void p.ty) _ _ (derived o void rvalue) _ (λ i. refl)
    (given_or structs ((is_struct o.ty || is_pointer o.ty) && same_type o.ty p.ty) _ _ (derived o o.ty rvalue) _ (λ i. seen_form structs o o.ty h.left)
    (given_or structs (is_pointer o.ty && p.is_null) _ _ (derived o o.ty rvalue) _ (λ i. seen_form structs o o.ty h.left)
    (given_or structs (o.is_null && is_pointer p.ty) _ _ (derived p p.ty rvalue) _
    (λ i. seen_form structs p p.ty (h.right (integer_no_struct o.ty (number (left_of o.is_null (is_pointer p.ty) i))))) refl))))

pub chooses : (question : PlainToken) (o p : OperandType) → IsNumberIfNull o → chosen_type question o p ≡ chosen_rule o p
chooses question o p number = chooses_by question o p (structs_for (asked_of o p)) (asks o p) number
