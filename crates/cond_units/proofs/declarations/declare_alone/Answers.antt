use Rattle.std.proofs.Common.{refl, ap, ◌∙◌}
use Rattle.cond_formula.specs.Features.{has}
use Rattle.cond_formula.specs.Conditions.{condition_of, value}
use Rattle.choice_trees.specs.ChoiceTrees.{plain_item, item_at}
use Rattle.type_tables.specs.Seen.{seen_tables}
use Rattle.cond_units.specs.Seen.{seen_unit}
use Rattle.cond_units.proofs.Declaring.{alone_here}
use Rattle.cond_units.proofs.declarations.declare_alone.Goals as goal

pub returns-clause-declares : goal.returns-clause-declares
returns-clause-declares g c = λ n admitted.
    alone_here (has n) c.in_ok-base.base (item_at (has n) (plain_item c.args.words.now)) (seen_unit (has n) c.args.unit.now)
    (record { tables = seen_tables (has n) c.declared_base.new.tables; defined = (seen_unit (has n) c.args.unit.now).defined })
    (value (has n) (condition_of c.args.when.now)) (value (has n) (condition_of c.in_ok-untyped.untyped))
    (λ x shown. c.in_ok-untyped.ensures (has n) x shown) refl
    (λ off. c.in_ok-base.ensures.elsewhere (has n) off)
    (λ on scope follows. c.in_ok-base.ensures.declares n scope follows admitted on)
    (value (has n) (condition_of c.in_ok-refused.refused)) (c.in_ok-refused.ensures.same n (ap (value (has n)) c.in_ok-base.ensures.kept ∙ admitted))
