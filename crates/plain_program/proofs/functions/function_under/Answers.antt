use Rattle.std.proofs.Common.{sym, ap, ◌∙◌}
use Rattle.plain_program.specs.Bodies.{held}
use Rattle.plain_program.specs.Functions.{function_under}
use Rattle.plain_program.proofs.FunctionLaws.{apart_of_unit}
use Rattle.plain_program.proofs.functions.function_under.Goals as goal

pub returns-in-Some-clause-function : goal.returns-in-Some-clause-function
returns-in-Some-clause-function c = λ globals.
    let body = held globals c.args.bodies.now c.args.key.now in
    c.defined_or_exit.ensures body (c.take_definition-definition.ensures.value globals)
    ∙ ap (λ unit. function_under unit c.args.key.now.name.items body) (sym c.in-Some.is)

pub returns-in-Some-clause-others : goal.returns-in-Some-clause-others
returns-in-Some-clause-others c = λ globals other apart.
    c.take_definition-definition.ensures.others globals other (apart_of_unit c.args.key.now other c.in-Some.field-0 c.in-Some.is apart)
