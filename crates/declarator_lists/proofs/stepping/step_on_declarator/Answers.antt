use Rattle.std.proofs.Common.{ap, ◌∙◌, subst}
use Rattle.cond_formula.specs.Features.{has}
use Rattle.cond_formula.specs.Conditions.{condition_of, value}
use Rattle.conditional.specs.Entries.{seen}
use Rattle.choice_trees.specs.ChoiceTrees.{plain_item, item_at}
use Rattle.choice_expansions.specs.Steps.{after_each}
use Rattle.declarator_lists.specs.Lists.{initialiser_in, with_initialiser}
use Rattle.declarator_lists.specs.Entries.{entries_at, all_initialised_at}
use Rattle.declarator_lists.proofs.Declarators.{one_under}
use Rattle.declarator_lists.proofs.stepping.step_on_declarator.Goals as goal

pub returns-clause-steps : goal.returns-clause-steps
returns-clause-steps g c = λ n m admitted means.
    subst (g.S.StepOnDeclarator.means c.step_with_each.new.state n)
    (ap (λ list. after_each (with_initialiser g.S.StepOnDeclarator.next (item_at (has n) (plain_item c.args.entry.now.item.now))) m (seen (has n) (all_initialised_at (has n) list))) c.deref.ensures.value
    ∙ (ap (after_each (with_initialiser g.S.StepOnDeclarator.next (item_at (has n) (plain_item c.args.entry.now.item.now))) m) (c.in_ok-all.ensures.alone n admitted)
    ∙ one_under (with_initialiser g.S.StepOnDeclarator.next (item_at (has n) (plain_item c.args.entry.now.item.now))) m (value (has n) (condition_of c.args.entry.now.when)) (initialiser_in (seen (has n) (entries_at (has n) c.args.behind.now)))))
    (c.in_ok-step_with_each.ensures.steps n m (ap (value (has n)) c.in_ok-all.ensures.kept ∙ admitted) means)
