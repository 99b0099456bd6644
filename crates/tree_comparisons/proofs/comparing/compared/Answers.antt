use Rattle.std.proofs.Common.{◌∙◌}
use Rattle.cond_formula.specs.Features.{has}
use Rattle.choice_trees.specs.ChoiceTrees.{forest_at}
use Rattle.tree_comparisons.proofs.comparing.compared.Goals as goal

pub returns-then-is_same_tree : goal.returns-then-is_same_tree
returns-then-is_same_tree c = λ same.
    (c.in-Ok.ensures.tree (λ bad. cc (c.in-Ok.is, bad)) (forest_at (has c.args.c) c.args.all.now.forest)).1 (c.is_same_tree.ensures c.if-is_same_tree.true ∙ c.in_ok-projected-in-Ok-2.ensures)
