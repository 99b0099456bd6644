use Rattle.std.proofs.Common.{[], ◌∷◌, ◌++◌, Some, ap, ◌∙◌}
use Rattle.cond_formula.specs.Features.{has}
use Rattle.cond_formula.specs.Conditions.{condition_of, value}
use Rattle.conditional.specs.Entries.{seen, under}
use Rattle.c_tree.specs.Trees.{plain_tree}
use Rattle.choice_expansions.specs.Expansions.{parts_expanded}
use Rattle.choice_expansions.proofs.Choosing.{part_added}
use Rattle.choice_expansions.proofs.alternatives.push_tree.Goals as goal

pub returns-clause-adds : goal.returns-clause-adds
returns-clause-adds g c = λ n admitted.
    part_added (has n) (record { when = c.in_ok-when.when; tree = Some c.in_ok-try_clone.field-0 }) c.args.all.now.items c.push.new.self.items c.in_ok-push.ensures.items
    ∙ (ap (λ t. seen (has n) (parts_expanded c.args.all.now.items) ++ under (value (has n) (condition_of c.in_ok-when.when)) (Some t ∷ [])) c.in_ok-try_clone.ensures
    ∙ ap (λ t. seen (has n) (parts_expanded c.args.all.now.items) ++ under t (Some (plain_tree c.args.expansion.now.tree) ∷ []))
    (c.in_ok-when.ensures (has n)))
