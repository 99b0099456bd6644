use Rattle.std.proofs.Common.{ap, ◌∙◌}
use Rattle.std.specs.Prelude.{option_map}
use Rattle.std.proofs.lemmas.Result.{IfOk-weaker}
use Rattle.cond_formula.specs.Features.{has}
use Rattle.cond_formula.specs.Conditions.{condition_of, value}
use Rattle.c_text.specs.Token.{plain_token}
use Rattle.c_types.specs.Types.{plain_type}
use Rattle.choice_trees.specs.ChoiceTrees.{plain_item, item_at}
use Rattle.type_tables.specs.Seen.{seen_tables}
use Rattle.cond_locals.proofs.OneObject.{object_here, declared_so}
use Rattle.cond_locals.proofs.objects.declare_there.Goals as goal

pub returns-clause-declares : goal.returns-clause-declares
returns-clause-declares g c =
    IfOk-weaker c.possible_both.result _ _ (λ f same n admitted.
    object_here (value (has n) (condition_of c.args.when.now)) (value (has n) (condition_of c.in_ok-unfit.unfit)) (value (has n) (condition_of c.in_ok-invalid.invalid)) (value (has n) (condition_of c.in_ok-refused.refused))
    (value (has n) (condition_of f)) (plain_type c.args.ty.now) (plain_token c.args.name.now) (option_map (λ item. item_at (has n) (plain_item item.now)) c.args.initialiser)
    (seen_tables (has n) c.args.tables.now) (seen_tables (has n) c.declare_local.new.self)
    (c.in_ok-declare_local.ensures.seen (has n) ∙ declared_so (has n) _ _ _ _ _ _ (seen_tables (has n) c.args.tables.now) c.deref.ensures.value c.in_ok-here.ensures c.in_ok-copy.ensures) (c.in_ok-unfit.ensures (has n)) (c.in_ok-invalid.ensures.refused n admitted)
    (c.in_ok-refused.ensures (has n)) (same n (ap (value (has n)) c.in_ok-invalid.ensures.kept ∙ admitted))) c.possible_both.ensures.same
