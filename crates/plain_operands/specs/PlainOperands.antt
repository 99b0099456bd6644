-- What expressions designate, and their values, without pointers and room in memory.
use Rattle.std.specs.Prelude.{Box}
use Rattle.std.specs.declared.alloc.Global.{Global}
use Rattle.c_text.specs.Token.{plain_token}
use Rattle.c_types.specs.Types.{plain_type}
use Rattle.core_meaning.specs.Typing as typing
use Rattle.core_meaning.specs.Typing.{value, object}
use Rattle.core_meaning.specs.declared.expressions.Expression.{Expression}
use Rattle.core_meaning.specs.declared.expressions.Place.{Place}
use Rattle.core_meaning.specs.Program.{PlainExpression, PlainPlace}
use Rattle.core_meaning.specs.Plain.{plain_expression, plain_place}
use Rattle.plain_operands.specs.declared.operands.Designation.{Designation}
use Rattle.plain_operands.specs.declared.operands.Designation.TheVariants.{Value, Object}
use Rattle.plain_operands.specs.declared.operands.Operand.{Operand}
use Rattle.plain_operands.specs.declared.operands.Typed.{Typed}

abbrev pub boxed_expression : Box Expression Global → PlainExpression
boxed_expression e = plain_expression e.value

abbrev pub boxed_place : Box Place Global → PlainPlace
boxed_place place = plain_place place.value

abbrev pub plain_designation : Designation → typing.Designation
plain_designation (Value core) = value (plain_expression core.value)
plain_designation (Object place free) = object (plain_place place.value) free

abbrev pub plain_operand : Operand → typing.Operand
plain_operand x = record {
  ty = plain_type x.ty.value;
  designates = plain_designation x.designates;
  is_null = x.is_null;
  stands_at = plain_token x.stands_at.now;
}

abbrev pub plain_typed : Typed → typing.Typed
plain_typed x = record { ty = plain_type x.ty.value; core = plain_expression x.core.value; is_null = x.is_null }
