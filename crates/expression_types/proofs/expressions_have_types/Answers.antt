use Rattle.operand_types.specs.OperandTypes.{type_of_operand}
use Rattle.core_meaning.specs.Expressions.{judged}
use Rattle.expression_types.specs.Reading.{read_expression}
use Rattle.expression_types.proofs.Sees.{outcome_seen}
use Rattle.expression_types.proofs.Numbers.{NullIsNumber}
use Rattle.expression_types.proofs.Typed.{expression_typed}
use Rattle.expression_types.proofs.expressions_have_types.Goals as goal

pub returns : goal.returns
returns c = λ by keeps scope known is level tree d.
    outcome_seen (type_of_operand by scope.structs) NullIsNumber (judged scope tree) (read_expression known tree).outcome
    (expression_typed by scope known is (c.types_are_kept.ensures by keeps scope) d).outcome
