use Rattle.std.proofs.Common.{ap, ◌∙◌}
use Rattle.c_tree.specs.declared.kinds.Kind.TheVariants.{Unit}
use Rattle.c_tree.specs.Trees.{node}
use Rattle.c_tree.specs.TreeLaws.{plain_tree-Node}
use Rattle.cond_formula.specs.Features.{has}
use Rattle.choice_trees.specs.ChoiceTrees.{parts_at, plain_choices}
use Rattle.choice_trees.proofs.projecting.project.Goals as goal

pub returns : goal.returns
returns c = plain_tree-Node Unit c.in_ok-trees_at.field-0 ∙ ap (node Unit) (c.in_ok-trees_at.ensures ∙ ap (λ items. parts_at (has c.args.c) Unit 0 (plain_choices items)) c.deref.ensures.value)
