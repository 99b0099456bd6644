use Rattle.std.proofs.Common.{◌+◌, List, drop, sym, ap, ◌∙◌, arith}
use Rattle.c_tree.specs.declared.trees.Tree.{Tree}
use Rattle.c_tree.specs.Trees.{plain_tree, plain_trees}
use Rattle.core_meaning.specs.Linking as spec
use Rattle.plain_numbers.specs.PlainTexts.{plain_texts}
use Rattle.plain_elab.proofs.JudgingLaws.{drop_at}
use Rattle.plain_elab.proofs.TextLaws.{texts_both}
use Rattle.plain_elab.proofs.collecting.+collecting.Goals as goal

pub add_trees-loop-tree-preserved : goal.add_trees-loop-tree-preserved
add_trees-loop-tree-preserved t c = record {
  numbered = c.in_ok-add_tree.ensures.numbered;
  same =
      let rest = drop (c.loop-tree.tree-index + 1) c.args.trees.now in
      let known = plain_texts c.loop-tree.texts in
      let step = drop_at c.args.trees.now c.loop-tree.tree-index c.tree-item.result (omega arith) c.tree-item.is in
      ap (λ texts. spec.different_texts texts (spec.texts_in_all (plain_trees rest))) c.in_ok-add_tree.ensures.texts
      ∙ sym (texts_both known (spec.texts_in (plain_tree c.tree-item.result)) (spec.texts_in_all (plain_trees rest)))
      ∙ ap (λ (trees : List Tree). spec.different_texts known (spec.texts_in_all (plain_trees trees))) (sym step)
      ∙ c.loop-tree.invariant.same;
}
