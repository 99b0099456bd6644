-- Assignments, `++` and `--`.
use Rattle.std.proofs.Common.{◌≡◌, Bool, true, false, List, [], refl, ap, ◌∙◌}
use Rattle.std.specs.Prelude.{◌&&◌, ◌||◌, Option, Some, None, is_some, if◌then◌else◌}
use Rattle.std.proofs.lemmas.Bool.{false≢true, true≢false}
use Rattle.c_text.specs.Token.{PlainToken}
use Rattle.c_types.specs.declared.arithmetic.BinaryOp.{BinaryOp}
use Rattle.c_types.specs.declared.arithmetic.BinaryOp.TheVariants.{Add, Sub}
use Rattle.c_types.specs.Types.{PlainType}
use Rattle.c_types.specs.Integers.{is_integer}
use Rattle.core_meaning.specs.declared.expressions.Operation.{Operation}
use Rattle.core_meaning.specs.declared.expressions.Operation.TheVariants as operation
use Rattle.core_meaning.specs.declared.expressions.Change.{Change}
use Rattle.core_meaning.specs.declared.refusals.TypeKind.TheVariants.{BadOperand, Incomplete}
use Rattle.core_meaning.specs.Program.{PlainExpression, null_constant, PlainPlace, assign, update}
use Rattle.core_meaning.specs.Checking as judged
use Rattle.core_meaning.specs.Checking.{give, found_or, or_broken, ◌>>=◌}
use Rattle.core_meaning.specs.Entities.{Struct}
use Rattle.core_meaning.specs.Typing.{is_movable, is_complete, is_pointer, is_struct, same_type, number_in_type, Operand, Typed, of_value, fits_into}
use Rattle.core_meaning.specs.Expressions as spec
use Rattle.core_meaning.specs.Expressions.{change_by, operation_on, pointer_operation, are_comparable, compound_operator, left_value, one, is_plain_assignment, may_be_assigned, written_place}
use Rattle.conditional.specs.Judgements.{Checked, fine, refused}
use Rattle.operand_types.specs.OperandTypes.{OperandType, Category, rvalue, lvalue, outcome_as, type_of_operand, structs_for, scope_for, any_core, any_place, an_operand, a_value, designates_as}
use Rattle.operand_types.specs.Operators.{same_number, stepped_type, assigned_type}
use Rattle.operand_rules.specs.Rules.{given, moves, fits, is_free, may_write, is_sum, changes, changed, updated, stepped_rule, assignment, assigned_rule}
use Rattle.operand_rules.proofs.Knowledge.{Knows, knows_own, completes_known, moves_known, seen, seen_form}
use Rattle.operand_rules.proofs.Loads.{outcome_with}

abbrev operand_seen : List Struct → judged.Checked Operand → Checked OperandType (Unit {0})
operand_seen structs x = outcome_as (type_of_operand same_number structs) x

-- ---- the place

continues : (sign : PlainToken) (o : OperandType) (next : PlainPlace → judged.Checked Operand)
    → operand_seen (structs_for o) (judged.with_bindings [] (next any_place)) ≡ operand_seen (structs_for o) (next any_place)
continues sign o next = outcome_with (type_of_operand same_number (structs_for o)) [] (next any_place)

written_in : (sign : PlainToken) (o : OperandType) (next : PlainPlace → judged.Checked Operand) (category : Category) (assignable plain complete : Bool)
    → may_be_assigned o.ty ≡ assignable → is_plain_assignment sign ≡ plain → is_complete (structs_for o) o.ty ≡ complete
    → operand_seen (structs_for o) (spec.place_in (an_operand sign o) sign (designates_as category) >>= (λ place. judged.unless_so (is_plain_assignment sign || is_complete (structs_for o) o.ty) Incomplete sign >>= (λ fine. give place)) >>= next)
    ≡ (if is_free category && (may_be_assigned o.ty && (is_plain_assignment sign || is_complete (structs_for o) o.ty)) then operand_seen (structs_for o) (next any_place) else refused tt)
written_in sign o next rvalue assignable plain complete ea ep ec = refl
written_in sign o next (lvalue false) assignable plain complete ea ep ec = refl
written_in sign o next (lvalue true) false plain complete ea ep ec = rw ea refl
written_in sign o next (lvalue true) true true complete ea ep ec = rw ea (rw ep (continues sign o next))
written_in sign o next (lvalue true) true false true ea ep ec = rw ea (rw ep (rw ec (continues sign o next)))
written_in sign o next (lvalue true) true false false ea ep ec = rw ea (rw ep (rw ec refl))

-- what is written to, and then what comes of it
pub writes : (sign : PlainToken) (o : OperandType) (next : PlainPlace → judged.Checked Operand)
    → operand_seen (structs_for o) (written_place (scope_for o) sign (an_operand sign o) >>= next) ≡ (if may_write sign o then operand_seen (structs_for o) (next any_place) else refused tt)
writes sign o next =
    written_in sign o next o.category (may_be_assigned o.ty) (is_plain_assignment sign) (is_complete (structs_for o) o.ty) refl refl refl
    ∙ ap (λ b. if is_free o.category && (may_be_assigned o.ty && (is_plain_assignment sign || b)) then operand_seen (structs_for o) (next any_place) else refused tt) (completes_known (structs_for o) o.has_complete_struct o.ty (knows_own o))

-- ---- the change

no_change : (place_type : PlainType) (b : Bool) (op : BinaryOp) → is_some (change_by place_type (if b then Some (operation.Pointers op) else None)) ≡ false
no_change place_type true op = refl
no_change place_type false op = refl

-- a sum of a pointer and a number is one of the pointer's type; other sums aren't
sum_change : (place_type : PlainType) (q : Operation) (m i j n : Bool) → is_some (change_by place_type (Some q)) ≡ true
    → (r : Operation) → is_some (change_by place_type (Some r)) ≡ false
    → (i && j) ≡ false → is_some (change_by place_type (if m && j then Some q else if n then Some r else None)) ≡ (j && (i || m))
sum_change place_type q true true true n kept r lost h = kept
sum_change place_type q true false true n kept r lost h = kept
sum_change place_type q false true true n kept r lost h = absurd (true≢false h)
sum_change place_type q false false true true kept r lost h = lost
sum_change place_type q false false true false kept r lost h = refl
sum_change place_type q true i false true kept r lost h = lost
sum_change place_type q true i false false kept r lost h = refl
sum_change place_type q false i false true kept r lost h = lost
sum_change place_type q false i false false kept r lost h = refl

other_change : (i j : Bool) → (i && j) ≡ false → false ≡ (j && (i || false))
other_change true true h = absurd (true≢false h)
other_change true false h = refl
other_change false true h = refl
other_change false false h = refl

pointer_changes : (structs : List Struct) (o : OperandType) (a b : Typed) (op : BinaryOp) → Knows structs o.has_complete_struct o.ty → a.ty ≡ o.ty → (is_integer o.ty && is_integer b.ty) ≡ false
    → is_some (change_by o.ty (pointer_operation structs op a b)) ≡ changes op o b.ty
pointer_changes structs o a b Add h e n =
    rw e (rw (moves_known structs o.has_complete_struct o.ty h) (sum_change o.ty operation.Forward (moves o.has_complete_struct o.ty) (is_integer o.ty) (is_integer b.ty) (is_integer o.ty && is_movable structs b.ty) refl operation.ForwardBy refl n))
pointer_changes structs o a b Sub h e n =
    rw e (rw (moves_known structs o.has_complete_struct o.ty h) (sum_change o.ty operation.Back (moves o.has_complete_struct o.ty) (is_integer o.ty) (is_integer b.ty) (moves o.has_complete_struct o.ty && same_type o.ty b.ty) refl operation.Distance refl n))
pointer_changes structs o a b op h e n = no_change o.ty (are_comparable op a b) op ∙ other_change (is_integer o.ty) (is_integer b.ty) n

number_changes : (i j m : Bool) → (i && j) ≡ true → true ≡ (j && (i || m))
number_changes true true m h = refl
number_changes true false m h = absurd (false≢true h)
number_changes false j m h = absurd (false≢true h)

operation_changes : (structs : List Struct) (o : OperandType) (a b : Typed) (op : BinaryOp) (numbers : Bool) → (is_integer o.ty && is_integer b.ty) ≡ numbers → Knows structs o.has_complete_struct o.ty → a.ty ≡ o.ty
    → is_some (change_by o.ty (operation_on structs op a b)) ≡ changes op o b.ty
operation_changes structs o a b op true n h e = rw e (rw n (number_changes (is_integer o.ty) (is_integer b.ty) (is_sum op && moves o.has_complete_struct o.ty) n))
operation_changes structs o a b op false n h e =
    let pointers : is_some (change_by o.ty (operation_on structs op a b)) ≡ is_some (change_by o.ty (pointer_operation structs op a b)) = rw e (rw n refl) in
    pointers ∙ pointer_changes structs o a b op h e n

-- ---- what comes of it

found_change : (structs : List Struct) (sign : PlainToken) (t : PlainType) (found : Option Change) (core : Change → PlainExpression)
    → operand_seen structs (found_or found BadOperand sign >>= (λ c. give (of_value sign t (core c)))) ≡ (if is_some found then fine (seen structs t) else refused tt)
found_change structs sign t None core = refl
found_change structs sign t (Some c) core = refl

updates_by : (sign : PlainToken) (o : OperandType) (right : Typed) (found : Option BinaryOp)
    → operand_seen (structs_for o) (or_broken found >>= (λ op. found_or (change_by o.ty (operation_on (structs_for o) op (left_value (an_operand sign o) any_place) right)) BadOperand sign >>= (λ c. give (of_value sign o.ty (update c any_place right.core)))))
    ≡ changed found o right.ty
updates_by sign o right None = refl
updates_by sign o right (Some op) =
    outcome_with (type_of_operand same_number (structs_for o)) [] _
    ∙ found_change (structs_for o) sign o.ty (change_by o.ty (operation_on (structs_for o) op (left_value (an_operand sign o) any_place) right)) (λ c. update c any_place right.core)
    ∙ ap (λ b. if b then fine (seen (structs_for o) o.ty) else refused tt) (operation_changes (structs_for o) o (left_value (an_operand sign o) any_place) right op (is_integer o.ty && is_integer right.ty) refl (knows_own o) refl)
    ∙ ap (λ v. if changes op o right.ty then fine v else refused tt) (seen_form (structs_for o) o o.ty (knows_own o))

updates : (sign : PlainToken) (o : OperandType) (right : Typed)
    → operand_seen (structs_for o) (spec.updated (scope_for o) update sign (an_operand sign o) any_place right) ≡ updated sign o right.ty
updates sign o right = updates_by sign o right (compound_operator sign.text)

fits_some : (a b c : Bool) (d e f : PlainExpression) → is_some (if a then Some d else if b then Some e else if c then Some f else None) ≡ (a || (b || c))
fits_some true b c d e f = refl
fits_some false true c d e f = refl
fits_some false false true d e f = refl
fits_some false false false d e f = refl

found_core : (structs : List Struct) (sign : PlainToken) (t : PlainType) (found : Option PlainExpression) (core : PlainExpression → PlainExpression)
    → operand_seen structs (found_or found BadOperand sign >>= (λ c. give (of_value sign t (core c)))) ≡ (if is_some found then fine (seen structs t) else refused tt)
found_core structs sign t None core = refl
found_core structs sign t (Some c) core = refl

plainly_assigns : (sign : PlainToken) (o p : OperandType)
    → operand_seen (structs_for o) (found_or (fits_into o.ty (a_value p)) BadOperand sign >>= (λ core. give (of_value sign o.ty (assign any_place core))))
    ≡ (if fits o.ty p.ty p.is_null then given o o.ty else refused tt)
plainly_assigns sign o p =
    found_core (structs_for o) sign o.ty (fits_into o.ty (a_value p)) (λ core. assign any_place core)
    ∙ ap (λ b. if b then fine (seen (structs_for o) o.ty) else refused tt) (fits_some (is_integer o.ty && is_integer p.ty) (is_pointer o.ty && p.is_null) ((is_pointer o.ty || is_struct o.ty) && same_type o.ty p.ty) (number_in_type o.ty (a_value p)) null_constant any_core)
    ∙ ap (λ v. if fits o.ty p.ty p.is_null then fine v else refused tt) (seen_form (structs_for o) o o.ty (knows_own o))

one_of_two : (structs : List Struct) (b : Bool) (x y : judged.Checked Operand) → operand_seen structs (if b then x else y) ≡ (if b then operand_seen structs x else operand_seen structs y)
one_of_two structs true x y = refl
one_of_two structs false x y = refl

assigns_place : (sign : PlainToken) (o p : OperandType)
    → operand_seen (structs_for o) (spec.assignment (scope_for o) sign (an_operand sign o) any_place (a_value p)) ≡ assignment sign o p
assigns_place sign o p =
    one_of_two (structs_for o) (is_plain_assignment sign) _ _
    ∙ ap (λ x. if is_plain_assignment sign then x else operand_seen (structs_for o) (spec.updated (scope_for o) update sign (an_operand sign o) any_place (a_value p))) (plainly_assigns sign o p)
    ∙ ap (λ x. if is_plain_assignment sign then (if fits o.ty p.ty p.is_null then given o o.ty else refused tt) else x) (updates sign o (a_value p))

pub steps : (sign : PlainToken) (o : OperandType) → stepped_type sign o ≡ stepped_rule sign o
steps sign o =
    writes sign o (λ place. spec.updated (scope_for o) update sign (an_operand sign o) place one)
    ∙ ap (λ x. if may_write sign o then x else refused tt) (updates sign o one)

pub assigns : (sign : PlainToken) (o p : OperandType) → assigned_type sign o p ≡ assigned_rule sign o p
assigns sign o p =
    writes sign o (λ place. spec.assignment (scope_for o) sign (an_operand sign o) place (a_value p))
    ∙ ap (λ x. if may_write sign o then x else refused tt) (assigns_place sign o p)
