use Rattle.std.proofs.Common.{false, refl, ap, ◌∙◌}
use Rattle.cond_formula.specs.Features.{has}
use Rattle.cond_formula.specs.Conditions.{value}
use Rattle.c_tree.specs.Trees.{none}
use Rattle.choice_trees.specs.ChoiceTrees.{plain_branches, with_part, branch_at}
use Rattle.cond_typing.specs.declared.lengths.TextLength.TheVariants.{NoText}
use Rattle.cond_typing.specs.Texts.{row_length}
use Rattle.cond_typing.proofs.TextRows.{next_text, all_texts}
use Rattle.cond_typing.proofs.texts.row_lengths.Goals as goal

pub loop-part-init : goal.loop-part-init
loop-part-init g c = record {
  kept = refl;
  so_far = λ n admitted. record { done = NoText; shows = c.in_ok-all.ensures (has n); same = refl };
}

pub loop-part-preserved : goal.loop-part-preserved
loop-part-preserved g c = record {
  kept = c.in_ok-all-2.ensures.kept ∙ (c.in_ok-next.ensures.kept ∙ c.loop-part.invariant.kept);
  so_far = λ n admitted.
      next_text (has n) c.args.parts.now c.loop-part.part-index c.part-item.result c.loop-part.all c.in_ok-all-2.all c.loop-part-test.true c.part-item.is (c.loop-part.invariant.so_far n admitted)
      (λ m shows. c.in_ok-all-2.ensures.shows n m (row_length (with_part false (branch_at (has n) (plain_branches c.part-item.result.branches.items)) none))
      (ap (value (has n)) (c.in_ok-next.ensures.kept ∙ c.loop-part.invariant.kept) ∙ admitted) shows
      (c.in_ok-next.ensures.stands n (ap (value (has n)) c.loop-part.invariant.kept ∙ admitted)));
}

pub returns-clause-shows : goal.returns-clause-shows
returns-clause-shows g c = λ n admitted. all_texts (has n) c.args.parts.now c.loop-part.part-index c.loop-part.all c.loop-part-test.false (c.loop-part.invariant.so_far n admitted)
