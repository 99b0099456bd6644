use Rattle.std.proofs.Common.{◌≡◌, ◌≤◌, [], ◌∷◌, ◌++◌, refl, sym, ap, ap₂, ◌∙◌, subst, arith}
use Rattle.cond_formula.specs.Features.{has}
use Rattle.cond_formula.specs.Conditions.{condition_of, value}
use Rattle.conditional.specs.Entries.{seen, under}
use Rattle.c_tree.specs.Trees.{more}
use Rattle.choice_trees.specs.ChoiceTrees.{plain_item, plain_branches, item_at}
use Rattle.choice_trees.specs.Depths.{depth, branches_depth}
use Rattle.choice_trees.proofs.Depths.{branch_within}
use Rattle.choice_variants.specs.Variants.{before, followed, AreLow}
use Rattle.choice_variants.proofs.Listing.{ahead, one_alternative, no_alternative}
use Rattle.choice_variants.proofs.alternatives.push_alternatives.Goals as goal

pub loop-when-init : goal.loop-when-init
loop-when-init g c = record {
  kept = refl;
  added = λ n rest admitted.
      ap (λ k. seen (has n) (followed (has n) rest c.args.all.now.items)
      ++ under (value (has n) k) (ahead (has n) c.args.needed c.args.variant.now.parts.items rest (plain_branches c.deref-when-items.result.now) ∷ [])) c.in_ok-left.ensures;
  low = λ n deep parts before. before;
}

pub loop-when-preserved : goal.loop-when-preserved
loop-when-preserved g c =
    let within : depth (plain_item c.loop-when-item.result.1) ≤ branches_depth (plain_branches c.deref-when-items.result.now) =
    subst (λ b. depth (plain_item b.1) ≤ branches_depth (plain_branches c.deref-when-items.result.now)) (sym c.loop-when-item.is)
    (branch_within c.deref-when-items.result.now c.loop-when.when-index c.loop-when-item.result c.loop-when-test.true) in
    record {
      kept = c.in_ok-push_longer.ensures.kept ∙ c.loop-when.invariant.kept;
      added = λ n rest admitted.
          one_alternative (has n) c.args.needed c.args.variant.now.parts.items rest c.deref-when-items.result.now c.loop-when.when-index c.loop-when-item.result
          (condition_of c.loop-when.left) (condition_of c.in_ok-here.here) (condition_of c.in_ok-left-2.left)
          (seen (has n) (followed (has n) rest c.loop-when.all.items)) (seen (has n) (followed (has n) rest c.push_longer.new.all.items))
          (seen (has n) (followed (has n) rest c.args.all.now.items) ++ under (value (has n) (condition_of c.args.variant.now.when)) (ahead (has n) c.args.needed c.args.variant.now.parts.items rest (plain_branches c.deref-when-items.result.now) ∷ []))
          c.loop-when-test.true c.loop-when-item.is
          (c.in_ok-here.ensures (has n))
          (c.in_ok-left-2.ensures (has n))
          (subst (λ ps. seen (has n) (followed (has n) rest c.push_longer.new.all.items)
          ≡ seen (has n) (followed (has n) rest c.loop-when.all.items) ++ under (value (has n) (condition_of c.in_ok-here.here)) (before (has n) ps (more (item_at (has n) (plain_item c.loop-when-item.result.1)) rest) ∷ []))
          c.deref.ensures.value (c.in_ok-push_longer.ensures.adds n rest (ap (value (has n)) c.loop-when.invariant.kept ∙ admitted)))
          (c.loop-when.invariant.added n rest admitted);
      low = λ n deep parts before.
          c.in_ok-push_longer.ensures.low n (subst (AreLow n) (sym c.deref.ensures.value) parts) (omega (arith, within, deep)) (c.loop-when.invariant.low n deep parts before);
    }

pub returns-clause-adds : goal.returns-clause-adds
returns-clause-adds g c = λ n rest admitted.
    subst (λ list. seen (has n) (followed (has n) rest c.push_longer-2.new.all.items)
    ≡ seen (has n) (followed (has n) rest c.args.all.now.items) ++ under (value (has n) (condition_of c.args.variant.now.when)) (ahead (has n) c.args.needed c.args.variant.now.parts.items rest (plain_branches list) ∷ []))
    c.deref-when-items.ensures.value
    (no_alternative (has n) c.args.needed c.args.variant.now.parts.items rest c.deref-when-items.result.now c.loop-when.when-index (condition_of c.loop-when.left) _
    (seen (has n) (followed (has n) rest c.loop-when.all.items)) (seen (has n) (followed (has n) rest c.push_longer-2.new.all.items)) _ c.loop-when-test.false
    (ap₂ (before (has n)) c.deref-2.ensures.value (c.part_left_out-part.ensures.shows (has n) rest))
    (c.in_ok-push_longer-2.ensures.adds n rest (ap (value (has n)) c.loop-when.invariant.kept ∙ admitted))
    (c.loop-when.invariant.added n rest admitted))

pub returns-clause-low : goal.returns-clause-low
returns-clause-low g c = λ n deep parts before.
    c.in_ok-push_longer-2.ensures.low n (subst (AreLow n) (sym c.deref-2.ensures.value) parts) (c.part_left_out-part.ensures.low n)
    (c.loop-when.invariant.low n (subst (λ list. branches_depth (plain_branches list) ≤ n) (sym c.deref-when-items.ensures.value) deep) parts before)
