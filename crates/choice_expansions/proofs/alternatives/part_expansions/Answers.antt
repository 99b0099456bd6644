use Rattle.std.proofs.Common.{◌≡◌, [], ◌∷◌, ◌++◌, refl, ap, ◌∙◌, subst}
use Rattle.cond_formula.specs.declared.formulas.Formula.{True}
use Rattle.cond_formula.specs.Features.{has}
use Rattle.cond_formula.specs.Conditions.{condition_of, value}
use Rattle.cond_formula.specs.ConditionLaws.{condition_of-True}
use Rattle.conditional.specs.Entries.{seen, under}
use Rattle.choice_trees.specs.ChoiceTrees.{plain_branches, branch_at}
use Rattle.choice_variants.proofs.Adding.{stands_alone}
use Rattle.choice_expansions.specs.Expansions.{parts_expanded}
use Rattle.choice_expansions.proofs.Choosing.{one_choice, no_choice}
use Rattle.choice_expansions.proofs.alternatives.part_expansions.Goals as goal

pub loop-when-init : goal.loop-when-init
loop-when-init g c = record {
  kept = refl;
  chosen = λ n admitted.
      ap (λ list. seen (has n) (parts_expanded list) ++ under (value (has n) (condition_of True)) (branch_at (has n) (plain_branches c.deref-when-items.result.now) ∷ [])) c.new-all.ensures.items
      ∙ ap (λ t. under (value (has n) t) (branch_at (has n) (plain_branches c.deref-when-items.result.now) ∷ [])) condition_of-True;
}

pub loop-when-preserved : goal.loop-when-preserved
loop-when-preserved g c = record {
  kept = c.in_ok-push_item.ensures.kept ∙ c.loop-when.invariant.kept;
  chosen = λ n admitted.
      one_choice (has n) c.deref-when-items.result.now c.loop-when.when-index c.loop-when-item.result (condition_of c.loop-when.left) (condition_of c.in_ok-here.here) (condition_of c.in_ok-left.left)
      (seen (has n) (parts_expanded c.loop-when.all.items)) (seen (has n) (parts_expanded c.push_item.new.all.items)) c.loop-when-test.true c.loop-when-item.is
      (c.in_ok-here.ensures (has n))
      (c.in_ok-left.ensures (has n))
      (c.in_ok-push_item.ensures.adds n (ap (value (has n)) c.loop-when.invariant.kept ∙ admitted)) (c.loop-when.invariant.chosen n admitted);
}

pub returns-clause-alone : goal.returns-clause-alone
returns-clause-alone g c = λ n admitted.
    subst (λ list. seen (has n) (parts_expanded c.push_nothing.new.all.items) ≡ branch_at (has n) (plain_branches list) ∷ []) c.deref-when-items.ensures.value
    (no_choice (has n) c.deref-when-items.result.now c.loop-when.when-index (condition_of c.loop-when.left) (seen (has n) (parts_expanded c.loop-when.all.items))
    (seen (has n) (parts_expanded c.push_nothing.new.all.items)) c.loop-when-test.false (c.in_ok-push_nothing.ensures.adds n (ap (value (has n)) c.loop-when.invariant.kept ∙ admitted))
    (c.loop-when.invariant.chosen n admitted))

pub returns-clause-stands : goal.returns-clause-stands
returns-clause-stands g c = λ n admitted.
    stands_alone (has n) (branch_at (has n) (plain_branches c.args.part.now.branches.items)) (parts_expanded c.push_nothing.new.all.items) (returns-clause-alone g c n admitted)
