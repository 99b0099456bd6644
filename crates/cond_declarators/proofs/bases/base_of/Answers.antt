use Rattle.std.proofs.Common.{sym, ap, ◌∙◌, subst}
use Rattle.cond_formula.specs.Features.{has}
use Rattle.cond_formula.specs.Conditions.{value}
use Rattle.conditional.specs.Entries.{Stands}
use Rattle.choice_trees.specs.ChoiceTrees.{plain_item, item_at}
use Rattle.choice_expansions.specs.Expansions.{expanded}
use Rattle.cond_declarators.proofs.bases.base_of.Goals as goal

pub returns-clause-shows : goal.returns-clause-shows
returns-clause-shows g c = λ n scope f admitted.
    c.in_ok-types.ensures.shows n scope f (item_at (has n) (plain_item c.args.words.now)) (ap (value (has n)) c.in_ok-expansions.ensures.kept ∙ admitted)
    (subst (λ list. Stands (has n) (item_at (has n) (plain_item c.args.words.now)) (expanded list)) (sym c.deref.ensures.value) (c.in_ok-expansions.ensures.stands n admitted))
