use Rattle.std.proofs.Common.{sym, ap, ◌∙◌}
use Rattle.std.specs.Prelude.{None, option_map, if◌then◌else◌}
use Rattle.core_meaning.specs.Linking as spec
use Rattle.core_meaning.specs.Linking.{same_linked, parts_of_body}
use Rattle.plain_link.specs.PlainDefinitions.{plain_body}
use Rattle.plain_numbers.specs.PlainLinked.{plain_linked, entry_at}
use Rattle.plain_numbers.specs.LinkedLaws.{same_is}
use Rattle.plain_program.specs.Bodies.{held}
use Rattle.plain_program.specs.Functions.{definition_of}
use Rattle.plain_program.proofs.FunctionLaws.{no_definition, objects_kept}
use Rattle.plain_program.proofs.functions.take_definition.Goals as goal

pub returns-then-not-is_function-clause-value : goal.returns-then-not-is_function-clause-value
returns-then-not-is_function-clause-value c = λ globals.
    no_definition (definition_of (held globals c.args.bodies.now c.args.key.now)) (c.if-not-is_function.ensures globals)

pub returns-clause-value : goal.returns-clause-value
returns-clause-value c = λ globals. c.definition_in.ensures globals ∙ ap definition_of (c.taken-body.ensures.value globals)

pub returns-clause-others : goal.returns-clause-others
returns-clause-others c = λ globals other apart.
    c.taken-body.ensures.others globals other ∙ ap (λ t. if t then None else held globals c.args.bodies.now other) apart

pub returns-clause-objects : goal.returns-clause-objects
returns-clause-objects c = λ globals other.
    let under = λ (x : spec.Linked). option_map (plain_body globals) (entry_at c.args.bodies.now x) in
    ap parts_of_body (c.taken-body.ensures.others globals other)
    ∙ objects_kept (held globals c.args.bodies.now other) (held globals c.args.bodies.now c.args.key.now) (same_linked (plain_linked c.args.key.now) (plain_linked other))
    (λ same. ap under (sym (same_is (plain_linked c.args.key.now) (plain_linked other) same)))
    (c.if-not-is_function.ensures globals)
