use Rattle.std.proofs.Common.{refl, ◌∙◌}
use Rattle.cond_formula.specs.Features.{has}
use Rattle.c_tree.specs.declared.kinds.Kind.TheVariants as k
use Rattle.type_tables.specs.Seen.{seen_tables}
use Rattle.cond_types.proofs.BigObjects.{items_same}
use Rattle.cond_types.proofs.sizes.where_too_big.Goals as goal

pub returns-clause-big : goal.returns-clause-big
returns-clause-big g c = λ n by unit admitted follows ready.
    c.in_ok-f.ensures.some n k.Unit admitted (λ place. refl) ∙ items_same (seen_tables (has n) c.args.tables.now) unit.scope follows.follows ready
