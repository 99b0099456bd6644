-- What steps in judging expressions give.
use Rattle.c_text.specs.Token.{plain_token}
use Rattle.core_meaning.specs.Expressions as spec
use Rattle.plain_expressions.specs.declared.expressions.TwoValues.{TwoValues}
use Rattle.plain_expressions.specs.declared.callees.Callee.{Callee}
use Rattle.plain_scope.specs.PlainScope.{plain_signature}
use Rattle.plain_operands.specs.PlainOperands.{plain_typed}
use Rattle.c_types.specs.Types.{plain_type}
use Rattle.core_meaning.specs.Plain.{plain_place}
use Rattle.plain_operands.specs.declared.assignments.Left.{Left}
use Rattle.plain_expressions.specs.Steps as steps

abbrev pub plain_two : TwoValues → steps.TwoValues
plain_two two = record { a = plain_typed two.a; b = plain_typed two.b }

abbrev pub plain_callee : Callee → spec.Callee
plain_callee f = record { name = plain_token f.name.now; signature = plain_signature f.signature.now }

abbrev pub plain_left : Left → steps.Written
plain_left left = record { ty = plain_type left.ty.value; place = plain_place left.place.value }
