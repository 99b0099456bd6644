use Rattle.std.proofs.Common.{map, ap, ◌∙◌, arith}
use Rattle.cond_bodies.specs.declared.part.Part.{Part}
use Rattle.cond_bodies.specs.CondItems.{items_at}
use Rattle.cond_bodies.specs.Slots.{part_items}
use Rattle.cond_bodies.proofs.SlotLemmas.{argument_found, argument_beyond}
use Rattle.cond_bodies.proofs.bodies.argument_of.Goals as goal

pub returns-then-number-arguments : goal.returns-then-number-arguments
returns-then-number-arguments c = λ on token.
    ap (λ (p : Part). part_items (map (λ a. items_at on a.items) c.args.arguments.now) token p) c.in-Parameter.is
    ∙ argument_found (λ a. items_at on a.items) token c.in-Parameter.number c.args.arguments.now c.index-arguments-number.result c.if-number-arguments.true c.index-arguments-number.is

pub returns-else-number-arguments : goal.returns-else-number-arguments
returns-else-number-arguments c = λ on token.
    ap (λ (p : Part). part_items (map (λ a. items_at on a.items) c.args.arguments.now) token p) c.in-Parameter.is
    ∙ argument_beyond (λ a. items_at on a.items) token c.in-Parameter.number c.args.arguments.now (omega arith)
