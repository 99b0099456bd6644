use Rattle.std.proofs.Common.{◌≡◌, ◌++◌, refl, ap, ◌∙◌, subst}
use Rattle.cond_formula.specs.Features.{has}
use Rattle.cond_formula.specs.Conditions.{condition_of, value}
use Rattle.cond_formula.specs.ConditionLaws.{condition_of-True}
use Rattle.conditional.specs.Entries.{seen, under}
use Rattle.choice_trees.specs.ChoiceTrees.{plain_branches}
use Rattle.declarator_lists.specs.Entries.{entries_at}
use Rattle.declarator_lists.proofs.Parts.{of_branches, one_alternative, no_alternative}
use Rattle.declarator_lists.proofs.items.push_choice.Goals as goal

pub loop-when-init : goal.loop-when-init
loop-when-init g c = record {
  kept = refl;
  chosen = λ n admitted.
      ap (λ t. seen (has n) (entries_at (has n) c.args.all.now.items) ++ under t (of_branches (has n) (plain_branches c.deref-when-items.result.now))) (ap (value (has n)) condition_of-True);
}

pub loop-when-preserved : goal.loop-when-preserved
loop-when-preserved g c = record {
  kept = c.in_ok-push_entry.ensures.kept ∙ c.loop-when.invariant.kept;
  chosen = λ n admitted.
      one_alternative (has n) c.deref-when-items.result.now c.loop-when.when-index c.loop-when-item.result
      (condition_of c.loop-when.left) (condition_of c.in_ok-here.here) (condition_of c.in_ok-left.left)
      (seen (has n) (entries_at (has n) c.loop-when.all.items)) (seen (has n) (entries_at (has n) c.push_entry.new.all.items)) _
      c.loop-when-test.true c.loop-when-item.is
      (c.in_ok-here.ensures (has n))
      (c.in_ok-left.ensures (has n))
      (c.in_ok-push_entry.ensures.adds n (ap (value (has n)) c.loop-when.invariant.kept ∙ admitted))
      (c.loop-when.invariant.chosen n admitted);
}

pub returns-clause-adds : goal.returns-clause-adds
returns-clause-adds g c = λ n admitted.
    subst (λ list. seen (has n) (entries_at (has n) c.loop-when.all.items) ≡ seen (has n) (entries_at (has n) c.args.all.now.items) ++ of_branches (has n) (plain_branches list))
    c.deref-when-items.ensures.value
    (no_alternative (has n) c.deref-when-items.result.now c.loop-when.when-index (condition_of c.loop-when.left) (seen (has n) (entries_at (has n) c.loop-when.all.items)) _ c.loop-when-test.false
    (c.loop-when.invariant.chosen n admitted))
