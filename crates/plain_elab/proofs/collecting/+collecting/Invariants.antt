use Rattle.std.proofs.Common.{◌≡◌, drop}
use Rattle.c_tree.specs.Trees.{plain_trees}
use Rattle.core_meaning.specs.Linking as spec
use Rattle.plain_numbers.specs.PlainTexts.{plain_texts, AreNumbered}
use Rattle.plain_elab.proofs.collecting.+collecting.Given as goal

abbrev pub invariant-add_trees-loop-tree : goal.invariant-add_trees-loop-tree
invariant-add_trees-loop-tree l = record {
  numbered : AreNumbered l.texts;
  same : spec.different_texts (plain_texts l.texts) (spec.texts_in_all (plain_trees (drop l.tree-index l.trees)))
      ≡ spec.different_texts (plain_texts l.initial.texts) (spec.texts_in_all (plain_trees l.trees));
}
