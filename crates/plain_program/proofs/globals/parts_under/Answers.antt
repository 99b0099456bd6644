use Rattle.std.proofs.Common.{sym, ap, ◌∙◌}
use Rattle.std.specs.Prelude.{None, if◌then◌else◌}
use Rattle.core_meaning.specs.Linking.{parts_of_body}
use Rattle.plain_program.specs.Bodies.{held}
use Rattle.plain_program.specs.Globals.{parts_under}
use Rattle.plain_program.proofs.FunctionLaws.{apart_of_unit}
use Rattle.plain_program.proofs.globals.parts_under.Goals as goal

pub returns-in-Some-clause-parts : goal.returns-in-Some-clause-parts
returns-in-Some-clause-parts c = λ globals.
    c.parts_in.ensures globals
    ∙ ap parts_of_body (c.taken-body.ensures.value globals)
    ∙ ap (λ unit. parts_under unit (held globals c.args.bodies.now c.args.key.now)) (sym c.in-Some.is)

pub returns-in-Some-clause-others : goal.returns-in-Some-clause-others
returns-in-Some-clause-others c = λ globals other apart.
    c.taken-body.ensures.others globals other
    ∙ ap (λ t. if t then None else held globals c.args.bodies.now other) (apart_of_unit c.args.key.now other c.in-Some.field-0 c.in-Some.is apart)
