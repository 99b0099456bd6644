use Rattle.std.proofs.Common.{◌++◌, false, None, ap, subst, ◌∙◌}
use Rattle.cond_formula.specs.Features.{has}
use Rattle.cond_formula.specs.Conditions.{condition_of, value}
use Rattle.cond_formula.specs.ConditionLaws.{condition_of-False}
use Rattle.choice_trees.specs.ChoiceTrees.{plain_item, item_at}
use Rattle.choice_trees.specs.Leaves.{item_leaves}
use Rattle.conditional.specs.Entries.{seen, listed, under}
use Rattle.selections.specs.Selections.{selected_in, structures_selected}
use Rattle.member_uses.specs.Uses.{using}
use Rattle.cond_selections.specs.Selected.{plain_selection}
use Rattle.cond_selections.specs.Progress.{Logs}
use Rattle.cond_selections.proofs.Identifiers.{item_identifiers}
use Rattle.cond_selections.proofs.Noting.{alone}
use Rattle.cond_selections.proofs.walks.push_selections.Goals as goal

pub returns-clause-selects : goal.returns-clause-selects
returns-clause-selects g c = λ n right admitted.
    let tree = item_at (has n) (plain_item c.args.item.now) in
    let known = g.K.Knowledge.known c.args.known.now n in
    let old = seen (has n) (listed plain_selection c.args.log.now) in
    alone (value (has n) (condition_of c.args.when.now)) (item_leaves (has n) (plain_item c.args.item.now)) (selected_in known None false tree)
    old (seen (has n) (listed plain_selection c.push_part.new.log))
    (subst (λ b. Logs (value (has n) (condition_of c.args.when.now)) (item_leaves (has n) (plain_item c.args.item.now)) (selected_in known None b tree)
    old (seen (has n) (listed plain_selection c.push_part.new.log))) (ap (value (has n)) condition_of-False)
    (c.in_ok-push_part.ensures.logs n None right admitted (c.in_ok-structures.ensures (has n))))
    ∙ ap (λ names. old ++ under (value (has n) (condition_of c.args.when.now)) (using names (structures_selected known tree))) (item_identifiers (has n) (plain_item c.args.item.now))
