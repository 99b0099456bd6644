use Rattle.std.proofs.Common.{◌≡◌, [], ◌∷◌, sym, ap, ◌∙◌, subst}
use Rattle.cond_formula.specs.Features.{has}
use Rattle.cond_formula.specs.Conditions.{value}
use Rattle.conditional.specs.Entries.{seen}
use Rattle.choice_trees.specs.ChoiceTrees.{plain_item, item_at}
use Rattle.choice_expansions.specs.Expansions.{expanded}
use Rattle.cond_units.proofs.object_declarators.declare_object.Goals as goal

pub returns-clause-declares : goal.returns-clause-declares
returns-clause-declares g c = λ n globals admitted.
    c.in_ok-refused.ensures.declares n globals (item_at (has n) (plain_item c.args.declarator.now)) (ap (value (has n)) c.in_ok-expansions.ensures.kept ∙ admitted)
    (subst (λ list. seen (has n) (expanded list) ≡ item_at (has n) (plain_item c.args.declarator.now) ∷ []) (sym c.deref.ensures.value) (c.in_ok-expansions.ensures.alone n admitted))
