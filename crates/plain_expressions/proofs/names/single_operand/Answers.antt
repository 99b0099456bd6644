use Rattle.std.proofs.Common.{sym, ap, ◌∙◌}
use Rattle.c_text.specs.Token.{plain_token}
use Rattle.c_tree.specs.Terminals.{terminal}
use Rattle.core_meaning.specs.Expressions.{character_operand, single_operand}
use Rattle.plain_scope.specs.PlainScope.{plain_scope}
use Rattle.plain_operands.specs.PlainOperands.{plain_operand}
use Rattle.plain_expressions.specs.Steps.{number_answer}
use Rattle.plain_expressions.proofs.Answering.{answers_alone}
use Rattle.plain_expressions.proofs.names.single_operand.Goals as goal

pub returns-in-Number : goal.returns-in-Number
returns-in-Number c =
    let scope = plain_scope c.args.scope.now in
    let token = plain_token c.args.token.now in
    answers_alone (single_operand scope token (terminal token)) (number_answer token) plain_operand c.args.used.now c.number_operand.result
    (ap (single_operand scope token) (sym c.terminal.ensures ∙ c.in-Number.is))
    c.number_operand.ensures

pub returns-in-Character : goal.returns-in-Character
returns-in-Character c =
    let scope = plain_scope c.args.scope.now in
    let token = plain_token c.args.token.now in
    answers_alone (single_operand scope token (terminal token)) (character_operand token) plain_operand c.args.used.now c.character_operand.result
    (ap (single_operand scope token) (sym c.terminal.ensures ∙ c.in-Character.is))
    c.character_operand.ensures
