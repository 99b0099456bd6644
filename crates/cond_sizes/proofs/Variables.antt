-- Expressions that have no constant value: what names objects, changes them or calls a function.
use Rattle.std.proofs.Common.{◌≡◌, ℕ, Bool, true, false, ◌&&◌, ◌+◌, List, length, refl, ap}
use Rattle.std.specs.Prelude.{Option, Some, None, if◌then◌else◌, codes, slice_get}
use Rattle.std.specs.Str.{bytes_eq}
use Rattle.c_text.specs.Token.{PlainToken}
use Rattle.c_types.specs.Types.{PlainType, char, pointer_to, array_of, structure}
use Rattle.c_types.specs.Tags.{PlainMember}
use Rattle.c_types.specs.Integers.{is_integer}
use Rattle.c_tree.specs.Trees.{PlainTrees}
use Rattle.core_meaning.specs.declared.expressions.Operation.TheVariants as operation
use Rattle.core_meaning.specs.declared.expressions.Change.{Change}
use Rattle.core_meaning.specs.declared.refusals.TypeKind.TheVariants.{BadOperand, Incomplete, NoMember}
use Rattle.core_meaning.specs.Program.{PlainExpression, PlainPlace, binary, literal, target, update, no_argument}
use Rattle.core_meaning.specs.Checking.{Checked, refused, ◌>>=◌, give, unless_so, uses, found_or, or_broken, file_entity}
use Rattle.core_meaning.specs.Entities.{Struct, Scope, entity_number}
use Rattle.core_meaning.specs.Typing.{Operand, Typed, of_value, of_object, loaded, is_complete, is_pointer, fits_into}
use Rattle.core_meaning.specs.Expressions as spec
use Rattle.core_meaning.specs.Expressions.{Callee, judged_arguments, count_entries}
use Rattle.core_meaning.specs.Constancy.{is_constant}
use Rattle.cond_sizes.proofs.Constants.{has_constant, constant_operand, leads_nowhere, none_of_both}

-- after any judgement
pub nothing_after : {A : Type 0} (f : A → Checked Operand) → ((x : A) → constant_operand (f x) ≡ None) → (c : Checked A) → constant_operand (c >>= f) ≡ None
nothing_after f none c = leads_nowhere (λ x. true) has_constant f none c

-- ---- texts (6.4.5)

pub texts_none : (scope : Scope) (bytes : Option (List ℕ)) (first : Option PlainToken)
    → constant_operand (or_broken bytes >>= (λ bytes. or_broken first >>= (λ first. give (of_object first (array_of char (length bytes + 1)) (literal (entity_number scope.numbers.literals bytes)) true)))) ≡ None
texts_none scope bytes first =
    nothing_after (λ bytes. or_broken first >>= (λ first. give (of_object first (array_of char (length bytes + 1)) (literal (entity_number scope.numbers.literals bytes)) true)))
    (λ bytes. nothing_after (λ first. give (of_object first (array_of char (length bytes + 1)) (literal (entity_number scope.numbers.literals bytes)) true)) (λ first. refl) (or_broken first)) (or_broken bytes)

-- ---- assignments (6.5.2.4, 6.5.3.1, 6.5.16)

updated_none : (scope : Scope) (make : Change → PlainPlace → PlainExpression → PlainExpression) → ((c : Change) (p : PlainPlace) (e : PlainExpression) → is_constant (make c p e) ≡ false)
    → (sign : PlainToken) (left : Operand) (place : PlainPlace) (right : Typed) → constant_operand (spec.updated scope make sign left place right) ≡ None
updated_none scope make made sign left place right =
    nothing_after _ (λ op. nothing_after (λ c. give (of_value sign left.ty (make c place right.core)))
    (λ c. ap (λ (t : Bool). if t then Some (of_value sign left.ty (make c place right.core)) else None) (made c place right.core)) _) (or_broken (spec.compound_operator sign.text))

pub stepped_none : (scope : Scope) (make : Change → PlainPlace → PlainExpression → PlainExpression) → ((c : Change) (p : PlainPlace) (e : PlainExpression) → is_constant (make c p e) ≡ false)
    → (sign : PlainToken) (x : Operand) → constant_operand (spec.stepped scope make sign x) ≡ None
stepped_none scope make made sign x = nothing_after (λ place. spec.updated scope make sign x place spec.one) (λ place. updated_none scope make made sign x place spec.one) (spec.written_place scope sign x)

pub assignment_none : (scope : Scope) (sign : PlainToken) (left : Operand) (place : PlainPlace) (right : Typed) → constant_operand (spec.assignment scope sign left place right) ≡ None
assignment_none scope sign left place right =
    none_of_both has_constant (spec.is_plain_assignment sign) _ _ (nothing_after _ (λ core. refl) (found_or (fits_into left.ty right) BadOperand sign))
    (updated_none scope update (λ c p e. refl) sign left place right)

pub assigned_none : (scope : Scope) (sign : PlainToken) (first second : Checked Operand)
    → constant_operand (first >>= (λ left. spec.written_place scope sign left >>= (λ place. second >>= (λ operand. loaded scope operand >>= (λ right. spec.assignment scope sign left place right))))) ≡ None
assigned_none scope sign first second =
    nothing_after (λ left. spec.written_place scope sign left >>= (λ place. second >>= (λ operand. loaded scope operand >>= (λ right. spec.assignment scope sign left place right))))
    (λ left. nothing_after (λ place. second >>= (λ operand. loaded scope operand >>= (λ right. spec.assignment scope sign left place right)))
    (λ place. nothing_after (λ operand. loaded scope operand >>= (λ right. spec.assignment scope sign left place right))
    (λ operand. nothing_after (λ right. spec.assignment scope sign left place right) (λ right. assignment_none scope sign left place right) (loaded scope operand)) second) (spec.written_place scope sign left)) first

-- ---- subscripts and members (6.5.2.1, 6.5.2.3)

element_none : (scope : Scope) (sign : PlainToken) (ty : PlainType) (core : PlainExpression) → constant_operand (spec.element_target scope sign ty core) ≡ None
element_none scope sign (pointer_to ty) core = none_of_both has_constant (is_complete scope.structs ty) (give (of_object sign ty (target core) true)) (refused Incomplete sign) refl refl
element_none scope sign ty core = refl

indexed_none : (scope : Scope) (sign : PlainToken) (a b : Typed) → constant_operand (spec.indexed scope sign a b) ≡ None
indexed_none scope sign a b =
    none_of_both has_constant (is_pointer a.ty && is_integer b.ty) _ _ (element_none scope sign a.ty (binary operation.Forward a.core b.core))
    (none_of_both has_constant (is_integer a.ty && is_pointer b.ty) _ _ (element_none scope sign b.ty (binary operation.ForwardBy a.core b.core)) refl)

pub subscript_none : (scope : Scope) (bracket : PlainToken) (first second : Checked Operand)
    → constant_operand (first >>= (λ left. loaded scope left >>= (λ a. second >>= (λ right. loaded scope right >>= (λ b. spec.indexed scope bracket a b))))) ≡ None
subscript_none scope bracket first second =
    nothing_after (λ left. loaded scope left >>= (λ a. second >>= (λ right. loaded scope right >>= (λ b. spec.indexed scope bracket a b))))
    (λ left. nothing_after (λ a. second >>= (λ right. loaded scope right >>= (λ b. spec.indexed scope bracket a b)))
    (λ a. nothing_after (λ right. loaded scope right >>= (λ b. spec.indexed scope bracket a b))
    (λ right. nothing_after (λ b. spec.indexed scope bracket a b) (λ b. indexed_none scope bracket a b) (loaded scope right)) second) (loaded scope left)) first

member_operand_none : (name : PlainToken) (place : PlainPlace) (free : Bool) (n : ℕ) (m : Option PlainMember) (number : ℕ) → constant_operand (spec.member_operand name place free n m number) ≡ None
member_operand_none name place free n None number = refl
member_operand_none name place free n (Some m) number = refl

member_in_none : (sign name : PlainToken) (place : PlainPlace) (free : Bool) (n : ℕ) (s : Option Struct) → constant_operand (spec.member_in sign name place free n s) ≡ None
member_in_none sign name place free n None = refl
member_in_none sign name place free n (Some s) =
    nothing_after (λ complete. found_or (s.numbers name.text) NoMember name >>= (λ number. spec.member_operand name place free n (slice_get s.members number) number))
    (λ complete. nothing_after (λ number. spec.member_operand name place free n (slice_get s.members number) number)
    (λ number. member_operand_none name place free n (slice_get s.members number) number) (found_or (s.numbers name.text) NoMember name)) (unless_so s.complete Incomplete sign)

member_none : (scope : Scope) (sign name : PlainToken) (ty : PlainType) (place : PlainPlace) (free : Bool) → constant_operand (spec.member_of scope sign name ty place free) ≡ None
member_none scope sign name (structure n) place free = member_in_none sign name place free n (slice_get scope.structs n)
member_none scope sign name ty place free = refl

target_none : (scope : Scope) (sign name : PlainToken) (x : Typed) (ty : PlainType) → constant_operand (spec.member_of_target scope sign name x ty) ≡ None
target_none scope sign name x (pointer_to ty) = member_none scope sign name ty (target x.core) true
target_none scope sign name x ty = refl

pub selected_none : (scope : Scope) (sign name : PlainToken) (x : Operand) → constant_operand (spec.selected scope sign name x) ≡ None
selected_none scope sign name x =
    none_of_both has_constant (bytes_eq sign.text (codes ".")) _ _ (member_none scope sign name x.ty (spec.struct_place x.ty x.designates) (spec.is_free x.designates))
    (nothing_after (λ x. spec.member_of_target scope sign name x x.ty) (λ x. target_none scope sign name x x.ty) (loaded scope x))

-- ---- calls (6.5.2.2)

no_function : (scope : Scope) (bracket : PlainToken) (first : Checked Operand) → constant_operand (first >>= (λ operand. loaded scope operand >>= (λ x. refused BadOperand bracket))) ≡ None
no_function scope bracket first =
    nothing_after (λ operand. loaded scope operand >>= (λ x. refused BadOperand bracket)) (λ operand. nothing_after (λ x. refused BadOperand bracket) (λ x. refl) (loaded scope operand)) first

pub called_none : (scope : Scope) (bracket : PlainToken) (first : Checked Operand) (parts : PlainTrees) (f : Option Callee)
    → constant_operand (elim f as (λ x. Checked Operand) [
      | Some f ↦ (do
        bound ← uses (file_entity f.name.text)
        callable ← spec.may_be_called scope f.signature (count_entries parts) bracket
        arguments ← judged_arguments scope f.signature.parameters parts bracket
        give (spec.result_of_call scope f bracket arguments))
      | None ↦ (do
        operand ← first
        x ← loaded scope operand
        refused BadOperand bracket)
    ]) ≡ None
called_none scope bracket first parts None = no_function scope bracket first
called_none scope bracket first parts (Some f) =
    nothing_after (λ bound. spec.may_be_called scope f.signature (count_entries parts) bracket >>= (λ callable. judged_arguments scope f.signature.parameters parts bracket >>= (λ arguments. give (spec.result_of_call scope f bracket arguments))))
    (λ bound. nothing_after (λ callable. judged_arguments scope f.signature.parameters parts bracket >>= (λ arguments. give (spec.result_of_call scope f bracket arguments)))
    (λ callable. nothing_after (λ arguments. give (spec.result_of_call scope f bracket arguments)) (λ arguments. refl) (judged_arguments scope f.signature.parameters parts bracket))
    (spec.may_be_called scope f.signature (count_entries parts) bracket)) (uses (file_entity f.name.text))

pub called_without_none : (scope : Scope) (bracket : PlainToken) (first : Checked Operand) (f : Option Callee)
    → constant_operand (elim f as (λ x. Checked Operand) [
      | Some f ↦ (do
        bound ← uses (file_entity f.name.text)
        callable ← spec.may_be_called scope f.signature 0 bracket
        give (spec.result_of_call scope f bracket no_argument))
      | None ↦ (do
        operand ← first
        x ← loaded scope operand
        refused BadOperand bracket)
    ]) ≡ None
called_without_none scope bracket first None = no_function scope bracket first
called_without_none scope bracket first (Some f) =
    nothing_after (λ bound. spec.may_be_called scope f.signature 0 bracket >>= (λ callable. give (spec.result_of_call scope f bracket no_argument)))
    (λ bound. nothing_after (λ callable. give (spec.result_of_call scope f bracket no_argument)) (λ callable. refl) (spec.may_be_called scope f.signature 0 bracket)) (uses (file_entity f.name.text))
