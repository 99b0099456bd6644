use Rattle.std.proofs.Common.{sym, ap, ◌∙◌, subst}
use Rattle.cond_formula.specs.Features.{has}
use Rattle.cond_formula.specs.Conditions.{value}
use Rattle.choice_trees.specs.ChoiceTrees.{plain_branches, with_part, branch_at}
use Rattle.choice_variants.specs.Variants.{AreLow}
use Rattle.choice_variants.proofs.Listing.{one_variant, all_variants, low_at}
use Rattle.choice_variants.proofs.alternatives.extended.Goals as goal

pub loop-variant-preserved : goal.loop-variant-preserved
loop-variant-preserved g c = record {
  kept = c.in_ok-push_alternatives.ensures.kept ∙ c.loop-variant.invariant.kept;
  so_far = λ n rest admitted.
      one_variant (has n) (with_part c.args.needed (branch_at (has n) (plain_branches c.args.choice.now.branches.items)) rest) rest c.args.variants.now
      c.loop-variant.variant-index c.variant-item.result c.loop-variant.all.items c.push_alternatives.new.all.items c.loop-variant-test.true c.variant-item.is
      (c.in_ok-push_alternatives.ensures.adds n rest (ap (value (has n)) c.loop-variant.invariant.kept ∙ admitted)) (c.loop-variant.invariant.so_far n rest admitted);
  low = λ n deep low.
      c.in_ok-push_alternatives.ensures.low n deep
      (subst (λ x. AreLow n x.parts.items) (sym c.variant-item.is) (low_at n c.args.variants.now c.loop-variant.variant-index c.variant-item.result c.loop-variant-test.true low))
      (c.loop-variant.invariant.low n deep low);
}

pub returns-clause-same : goal.returns-clause-same
returns-clause-same g c = λ n rest admitted.
    all_variants (has n) (with_part c.args.needed (branch_at (has n) (plain_branches c.args.choice.now.branches.items)) rest) rest c.args.variants.now
    c.loop-variant.variant-index c.loop-variant.all.items c.loop-variant-test.false (c.loop-variant.invariant.so_far n rest admitted)
