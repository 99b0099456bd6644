-- Steps in judging operators.
use Rattle.std.specs.Prelude.{Bool, true, false, ◌&&◌, ◌||◌, codes, if◌then◌else◌}
use Rattle.std.specs.Str.{bytes_eq}
use Rattle.c_text.specs.Token.{PlainToken}
use Rattle.c_types.specs.Types.{plain_type}
use Rattle.core_meaning.specs.declared.expressions.Operation.{Operation}
use Rattle.core_meaning.specs.declared.expressions.Change.{Change}
use Rattle.core_meaning.specs.declared.refusals.TypeKind.TheVariants.{BadOperand}
use Rattle.core_meaning.specs.Program.{null_constant, PlainExpression, PlainPlace, binary, logical_and, logical_or, update, update_after}
use Rattle.core_meaning.specs.Plain.{plain_place}
use Rattle.core_meaning.specs.Checking.{refused, Checked, ◌>>=◌, or_broken}
use Rattle.core_meaning.specs.Entities.{Scope}
use Rattle.core_meaning.specs.Typing.{loaded, Operand, Typed, of_value, of_object, common, is_pointer, is_struct, same_type}
use Rattle.core_meaning.specs.Expressions.{member_of_target, operator_named, combined, operation_type, operand_core, dereferenced, negated, signed, chosen_core, converted_to}
use Rattle.plain_operands.specs.declared.assignments.Left.{Left}

-- an object that is written to
abbrev pub left_operand : PlainToken → Left → Operand
left_operand token left = of_object token (plain_type left.ty.value) (plain_place left.place.value) true

-- the place of it
abbrev pub left_place : Left → PlainPlace
left_place left = plain_place left.place.value

-- `&&` or `||`
abbrev pub joined_by : Bool → PlainExpression → PlainExpression → PlainExpression
joined_by true = logical_and
joined_by false = logical_or

-- an assignment that gives the old value or the new one
abbrev pub update_by : Bool → Change → PlainPlace → PlainExpression → PlainExpression
update_by true = update_after
update_by false = update

abbrev pub operated : PlainToken → Operation → Typed → Typed → Operand
operated sign o a b = of_value sign (operation_type o a.ty b.ty) (binary o (operand_core o a) (operand_core o b))

-- an operator of this spelling between two values
abbrev pub combined_as : Scope → PlainToken → Typed → Typed → Checked Operand
combined_as scope sign a b = or_broken (operator_named sign.text) >>= combined scope sign a b

-- an operator before a value
abbrev pub on_value : PlainToken → Typed → Checked Operand
on_value sign x =
    if bytes_eq sign.text (codes "*") then dereferenced sign x x.ty
    else if bytes_eq sign.text (codes "!") then negated sign x
    else signed sign x

abbrev pub on_loaded : Scope → PlainToken → Operand → Checked Operand
on_loaded scope sign operand = loaded scope operand >>= on_value sign

abbrev pub chosen_number : PlainToken → PlainExpression → Typed → Typed → Checked Operand
chosen_number sign condition a b =
    chosen_core sign condition (common a.ty b.ty) (converted_to (common a.ty b.ty) a) (converted_to (common a.ty b.ty) b)

abbrev pub chosen_or_null : PlainToken → PlainExpression → Typed → Typed → Checked Operand
chosen_or_null sign condition a b =
    if is_pointer a.ty && b.is_null then chosen_core sign condition a.ty a.core null_constant
    else if a.is_null && is_pointer b.ty then chosen_core sign condition b.ty null_constant b.core
    else refused BadOperand sign

abbrev pub chosen_struct_or_pointer : PlainToken → PlainExpression → Typed → Typed → Checked Operand
chosen_struct_or_pointer sign condition a b =
    if (is_struct a.ty || is_pointer a.ty) && same_type a.ty b.ty then chosen_core sign condition a.ty a.core b.core
    else chosen_or_null sign condition a b

-- the member of what a pointer points to
abbrev pub member_of_loaded : Scope → PlainToken → PlainToken → Operand → Checked Operand
member_of_loaded scope sign name operand = loaded scope operand >>= (λ x. member_of_target scope sign name x x.ty)
