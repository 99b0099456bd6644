use Rattle.std.proofs.Common.{◌||◌, ap, ◌∙◌}
use Rattle.cond_formula.specs.Features.{has}
use Rattle.cond_formula.specs.Conditions.{condition_of, value}
use Rattle.c_tree.specs.declared.kinds.Kind.TheVariants as k
use Rattle.choice_trees.specs.ChoiceTrees.{plain_choices, parts_at}
use Rattle.cond_units.specs.Seen.{seen_unit}
use Rattle.cond_types.proofs.AtEnd.{to_end_where}
use Rattle.cond_types.proofs.ends.declare_to_end.Goals as goal

pub returns-clause-declares : goal.returns-clause-declares
returns-clause-declares g c = λ n globals admitted.
    let declared_here = ap (value (has n)) c.in_ok-refused.ensures.kept ∙ admitted in
    let sized_here = ap (value (has n)) c.in_ok-too_big.ensures.kept ∙ declared_here in
    to_end_where (value (has n) (condition_of c.args.when.now)) globals (parts_at (has n) k.Unit 0 (plain_choices c.args.items.now)) (seen_unit (has n) c.args.unit.now) (seen_unit (has n) c.declare_items.new.unit)
    (value (has n) (condition_of c.in_ok-refused.refused)) (value (has n) (condition_of c.in_ok-too_big.too_big)) (value (has n) (condition_of c.in_ok-f.f))
    (c.in_ok-refused.ensures.declares n globals admitted)
    (λ by unit follows ready. c.in_ok-too_big.ensures.big n by unit declared_here follows ready)
    (c.in_ok-f.ensures (has n) ∙ ap (λ b. value (has n) (condition_of c.in_ok-refused.refused) || b) (c.in_ok-big_here.ensures.same n sized_here))
