use Rattle.std.proofs.Common.{[], ◌∷◌, ◌++◌, ap, ◌∙◌}
use Rattle.cond_formula.specs.Features.{has}
use Rattle.cond_formula.specs.Conditions.{condition_of, value}
use Rattle.conditional.specs.Entries.{seen, under}
use Rattle.c_tree.specs.Trees.{plain_tree}
use Rattle.choice_expansions.specs.Expansions.{plain_expansion, expanded}
use Rattle.declarator_lists.proofs.Pushing.{pushed}
use Rattle.cond_parameters.proofs.trees.push_tree.Goals as goal

pub returns-clause-adds : goal.returns-clause-adds
returns-clause-adds g c = λ n admitted.
    pushed (has n) plain_expansion (record { when = c.in_ok-when.when; tree = c.in_ok-tree.tree }) c.args.all.now.items c.push.new.self.items c.in_ok-push.ensures.items
    ∙ (ap (λ t. seen (has n) (expanded c.args.all.now.items) ++ under (value (has n) (condition_of c.in_ok-when.when)) (t ∷ [])) c.in_ok-tree.ensures
    ∙ ap (λ t. seen (has n) (expanded c.args.all.now.items) ++ under t (plain_tree c.args.expansion.now.tree ∷ []))
    (c.in_ok-when.ensures (has n)))
