use Rattle.std.proofs.Common.{ap, ◌∙◌, subst, sym}
use Rattle.std.specs.Prelude.{option_map}
use Rattle.std.proofs.lemmas.Result.{IfOk-weaker}
use Rattle.cond_formula.specs.Features.{has}
use Rattle.cond_formula.specs.Conditions.{condition_of, value}
use Rattle.conditional.specs.Entries.{entries_of, Stands}
use Rattle.c_text.specs.Token.{plain_token}
use Rattle.c_tree.specs.Trees.{plain_tree}
use Rattle.choice_trees.specs.ChoiceTrees.{plain_item, item_at}
use Rattle.type_tables.specs.Forms.{declared_type_form}
use Rattle.type_tables.specs.Seen.{seen_tables}
use Rattle.cond_locals.proofs.OneDeclarator.{new_here}
use Rattle.cond_locals.proofs.declarators.declare_new.Goals as goal

pub returns-clause-declares : goal.returns-clause-declares
returns-clause-declares g c =
    IfOk-weaker c.either.result _ _ (λ f is n admitted.
    new_here (has n) c.args.base.now (plain_tree c.args.declarator.now) (plain_token c.args.name.now) (option_map (λ item. item_at (has n) (plain_item item.now)) c.args.initialiser)
    (seen_tables (has n) c.args.tables.now) (seen_tables (has n) c.declare_by_types.new.tables) (value (has n) (condition_of c.args.when.now)) c.in_ok-types.types
    (value (has n) (condition_of c.in_ok-untyped.untyped)) (value (has n) (condition_of c.in_ok-no_object.no_object)) (value (has n) (condition_of c.in_ok-refused.refused)) (value (has n) (condition_of f))
    (is (has n)) (c.in_ok-no_object.ensures.same n (ap (value (has n)) c.in_ok-types.ensures.kept ∙ admitted))
    (λ x shown. c.in_ok-untyped.ensures (has n) x shown)
    (λ scope follows ty there shown. c.in_ok-types.ensures.shows n scope follows ty (plain_token c.args.name.now) admitted there shown)
    (λ off. c.in_ok-refused.ensures.elsewhere n (ap (value (has n)) (c.in_ok-no_object.ensures.kept ∙ c.in_ok-types.ensures.kept) ∙ admitted) off)
    (λ on ty stands. c.in_ok-refused.ensures.declares n (ap (value (has n)) (c.in_ok-no_object.ensures.kept ∙ c.in_ok-types.ensures.kept) ∙ admitted) on ty
    (subst (λ list. Stands (has n) ty (entries_of declared_type_form list)) (sym c.deref.ensures.value) stands))) c.either.ensures
