use Rattle.std.proofs.Common.{◌&&◌, [], ◌∷◌, ◌++◌, ap, ◌∙◌}
use Rattle.cond_formula.specs.Features.{has}
use Rattle.cond_formula.specs.Conditions.{condition_of, value}
use Rattle.conditional.specs.Entries.{seen, under}
use Rattle.c_tree.specs.Trees.{more, plain_tree}
use Rattle.choice_expansions.specs.Expansions.{trees_before, rows_before}
use Rattle.choice_expansions.proofs.Crossing.{row_added}
use Rattle.choice_expansions.proofs.rows.push_row.Goals as goal

pub returns-clause-adds : goal.returns-clause-adds
returns-clause-adds g c = λ n rest admitted.
    row_added (has n) rest (record { when = c.in_ok-when.when; trees = c.in_ok-trees.trees }) c.args.rows.now.items c.push.new.self.items c.in_ok-push.ensures.items
    ∙ (ap (λ t. seen (has n) (rows_before rest c.args.rows.now.items) ++ under t (trees_before c.in_ok-trees.trees.items rest ∷ []))
    (c.in_ok-when.ensures (has n))
    ∙ ap (λ what. seen (has n) (rows_before rest c.args.rows.now.items) ++ under (value (has n) (condition_of c.args.row.now.when) && value (has n) (condition_of c.args.expansion.now.when)) (what ∷ []))
    (c.in_ok-trees.ensures rest ∙ ap (λ trees. trees_before trees (more (plain_tree c.args.expansion.now.tree) rest)) c.deref.ensures.value))
