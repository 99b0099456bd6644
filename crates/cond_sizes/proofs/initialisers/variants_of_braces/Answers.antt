use Rattle.std.proofs.Common.{refl, ap, ◌∙◌, subst}
use Rattle.cond_formula.specs.Features.{has}
use Rattle.cond_formula.specs.Conditions.{value}
use Rattle.c_tree.specs.declared.kinds.Kind.TheVariants.{Braces}
use Rattle.c_tree.specs.Trees.{none, node}
use Rattle.choice_variants.specs.Variants.{before, variant_before}
use Rattle.core_meaning.specs.Constancy.{count_by_initialiser}
use Rattle.cond_sizes.specs.Sizes.{given, ShowsCount}
use Rattle.cond_sizes.proofs.Placing.{placed_start, placed_next, placed_end, by_judgement}
use Rattle.cond_sizes.proofs.initialisers.variants_of_braces.Goals as goal

pub loop-variant-init : goal.loop-variant-init
loop-variant-init g c = record {
  kept = refl;
  so_far = λ n element parts admitted stands.
      placed_start (has n) (variant_before (has n) none) c.args.variants.now parts (given (count_by_initialiser element (node Braces parts))) c.nothing-all.result stands
      (c.nothing-all.ensures (has n) (given (count_by_initialiser element (node Braces parts))));
}

pub loop-variant-preserved : goal.loop-variant-preserved
loop-variant-preserved g c = record {
  kept = c.in_ok-given.ensures.kept ∙ c.loop-variant.invariant.kept;
  so_far = λ n element parts admitted stands.
      placed_next (has n) (variant_before (has n) none) c.args.variants.now parts (given (count_by_initialiser element (node Braces parts))) c.loop-variant.variant-index c.variant-item.result
      c.loop-variant.all c.place_under.new.self c.loop-variant-test.true c.variant-item.is
      (by_judgement (has n) (variant_before (has n) none c.variant-item.result) parts (given (count_by_initialiser element (node Braces parts))) c.in_ok-given.given c.loop-variant.all c.place_under.new.self
      (λ same. subst (λ list. ShowsCount (has n) (given (count_by_initialiser element (node Braces list))) c.in_ok-given.given)
      (ap (λ items. before (has n) items none) c.deref.ensures.value ∙ same)
      (c.in_ok-given.ensures.shows n element (ap (value (has n)) c.loop-variant.invariant.kept ∙ admitted)))
      (c.in_ok-place_under.ensures (has n)))
      (c.loop-variant.invariant.so_far n element parts admitted stands);
}

pub returns-clause-shows : goal.returns-clause-shows
returns-clause-shows g c = λ n element parts admitted stands.
    placed_end (has n) (variant_before (has n) none) c.args.variants.now parts (given (count_by_initialiser element (node Braces parts))) c.loop-variant.variant-index c.loop-variant.all
    c.loop-variant-test.false (c.loop-variant.invariant.so_far n element parts admitted stands)
