use Rattle.std.proofs.Common.{◌≤◌, [], ◌∷◌, ◌++◌, ◌+◌, drop, refl, sym, ap, ◌∙◌, subst}
use Rattle.cond_formula.specs.declared.formulas.Formula.{True}
use Rattle.cond_formula.specs.Features.{has}
use Rattle.cond_formula.specs.Conditions.{value}
use Rattle.cond_formula.specs.ConditionLaws.{condition_of-True}
use Rattle.conditional.specs.Entries.{seen}
use Rattle.choice_trees.specs.ChoiceTrees.{plain_branches, plain_choices, with_part, branch_at, parts_at}
use Rattle.choice_trees.specs.Depths.{branches_depth, choices_depth}
use Rattle.choice_trees.proofs.Depths.{choice_within}
use Rattle.choice_variants.specs.Variants.{followed, shown, AreAllLow}
use Rattle.choice_variants.proofs.Adding.{stands_alone}
use Rattle.choice_variants.proofs.Listing.{begins, low_begins, next_part, parts_end}
use Rattle.choice_variants.proofs.nodes.variants.Goals as goal

pub loop-place-init : goal.loop-place-init
loop-place-init g c = record {
  kept = refl;
  alone = λ n admitted.
      begins (has n) (record { when = True; parts = c.new.result }) c.push.new.self.items (parts_at (has n) c.args.kind 0 (plain_choices c.args.parts.now))
      (c.in_ok-push.ensures.items ∙ ap (λ list. list ++ record { when = True; parts = c.new.result } ∷ []) c.in_ok-all.ensures.items) (ap (value (has n)) condition_of-True) c.new.ensures.items;
  low =
      low_begins (choices_depth (plain_choices c.args.parts.now)) (record { when = True; parts = c.new.result }) c.push.new.self.items
      (c.in_ok-push.ensures.items ∙ ap (λ list. list ++ record { when = True; parts = c.new.result } ∷ []) c.in_ok-all.ensures.items) c.new.ensures.items;
}

pub loop-place-preserved : goal.loop-place-preserved
loop-place-preserved g c = record {
  kept = c.in_ok-all-2.ensures.kept ∙ c.loop-place.invariant.kept;
  alone = λ n admitted.
      c.in_ok-all-2.ensures.same n (parts_at (has n) c.args.kind (c.loop-place.place + 1) (plain_choices (drop (c.loop-place.place + 1) c.args.parts.now)))
      (ap (value (has n)) c.loop-place.invariant.kept ∙ admitted)
      ∙ (ap (λ all. seen (has n) (followed (has n) (with_part c.needs_statement.result (branch_at (has n) (plain_branches c.index-parts-place.result.branches.items))
      (parts_at (has n) c.args.kind (c.loop-place.place + 1) (plain_choices (drop (c.loop-place.place + 1) c.args.parts.now)))) all)) c.deref.ensures.value
      ∙ (ap (λ rest. seen (has n) (followed (has n) rest c.loop-place.all.items))
      (sym (next_part (has n) c.args.kind c.args.parts.now c.loop-place.place c.index-parts-place.result c.needs_statement.result c.loop-place-test.true c.index-parts-place.is c.needs_statement.ensures))
      ∙ c.loop-place.invariant.alone n admitted));
  low =
      c.in_ok-all-2.ensures.low (choices_depth (plain_choices c.args.parts.now))
      (subst (λ part. branches_depth (plain_branches part.branches.items) ≤ choices_depth (plain_choices c.args.parts.now)) (sym c.index-parts-place.is)
      (choice_within c.args.parts.now c.loop-place.place c.index-parts-place.result c.loop-place-test.true))
      (subst (AreAllLow (choices_depth (plain_choices c.args.parts.now))) (sym c.deref.ensures.value) c.loop-place.invariant.low);
}

pub returns-clause-alone : goal.returns-clause-alone
returns-clause-alone g c = λ n admitted.
    parts_end (has n) c.args.kind c.args.parts.now c.loop-place.place c.loop-place.all.items (parts_at (has n) c.args.kind 0 (plain_choices c.args.parts.now)) c.loop-place-test.false
    (c.loop-place.invariant.alone n admitted)

pub returns-clause-stands : goal.returns-clause-stands
returns-clause-stands g c = λ n admitted.
    stands_alone (has n) (parts_at (has n) c.args.kind 0 (plain_choices c.args.parts.now)) (shown (has n) c.loop-place.all.items)
    (parts_end (has n) c.args.kind c.args.parts.now c.loop-place.place c.loop-place.all.items (parts_at (has n) c.args.kind 0 (plain_choices c.args.parts.now)) c.loop-place-test.false
    (c.loop-place.invariant.alone n admitted))
