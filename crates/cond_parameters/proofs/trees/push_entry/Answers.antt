use Rattle.std.proofs.Common.{◌&&◌, ◌++◌, sym, ap₂, ◌∙◌}
use Rattle.cond_formula.specs.Features.{has}
use Rattle.cond_formula.specs.Conditions.{condition_of, value}
use Rattle.conditional.specs.Entries.{seen, under}
use Rattle.choice_trees.specs.ChoiceTrees.{plain_item, item_at}
use Rattle.choice_expansions.specs.Expansions.{expanded}
use Rattle.cond_parameters.proofs.Pushed.{not_among, alone_among}
use Rattle.cond_parameters.proofs.trees.push_entry.Goals as goal

pub returns-then-not-is_parameter-clause-adds : goal.returns-then-not-is_parameter-clause-adds
returns-then-not-is_parameter-clause-adds g c = λ n admitted.
    not_among (value (has n) (condition_of c.args.when.now) && value (has n) (condition_of c.args.entry.now.when)) (item_at (has n) (plain_item c.args.entry.now.item.now)) (seen (has n) (expanded c.args.all.now.items))
    (sym (c.is_parameter.ensures (has n)) ∙ c.if-not-is_parameter.true)

pub returns-clause-adds : goal.returns-clause-adds
returns-clause-adds g c = λ n admitted.
    c.in_ok-push_item.ensures.adds n admitted
    ∙ ap₂ (λ t list. seen (has n) (expanded c.args.all.now.items) ++ under t list)
    (c.in_ok-here.ensures (has n))
    (sym (alone_among (item_at (has n) (plain_item c.args.entry.now.item.now)) (sym (c.is_parameter.ensures (has n)) ∙ c.if-not-is_parameter.false)))
