use Rattle.std.proofs.Common.{true, sym, ap, ◌∙◌, subst}
use Rattle.cond_formula.specs.Features.{has}
use Rattle.cond_formula.specs.Conditions.{condition_of, value}
use Rattle.c_tree.specs.declared.kinds.Kind.TheVariants as k
use Rattle.c_tree.specs.Trees.{none}
use Rattle.conditional.specs.Entries.{Stands}
use Rattle.choice_trees.specs.ChoiceTrees.{plain_choices, parts_at}
use Rattle.choice_variants.specs.Variants.{before, shown}
use Rattle.cond_typing.proofs.VariantsPlaced.{none_placed, next_placed, all_placed}
use Rattle.cond_selections.proofs.Behind.{outcome_of, ShowsSoFar, shown_so_far}
use Rattle.cond_selections.proofs.structures.structure_of_selection.Goals as goal

pub loop-variant-init : goal.loop-variant-init
loop-variant-init g c = record {
  kept = c.in_ok-variants.ensures.kept;
  so_far = λ n right admitted.
      let known = g.K.Knowledge.known c.args.known.now n in
      let trees = parts_at (has n) k.Selection 0 (plain_choices c.args.parts.now) in
      none_placed (has n) (outcome_of known) (λ held all. ShowsSoFar (has n) (outcome_of known trees) held all) trees c.deref-variant-items.result.now c.nothing-all.result
      (c.nothing-all.ensures (has n) (outcome_of known trees))
      (subst (λ vs. Stands (has n) trees (shown (has n) vs)) (sym c.deref-variant-items.ensures.value) (c.in_ok-variants.ensures.stands n admitted));
}

pub loop-variant-preserved : goal.loop-variant-preserved
loop-variant-preserved g c = record {
  kept = c.in_ok-structure.ensures.kept ∙ c.loop-variant.invariant.kept;
  so_far = λ n right admitted.
      let known = g.K.Knowledge.known c.args.known.now n in
      let trees = parts_at (has n) k.Selection 0 (plain_choices c.args.parts.now) in
      next_placed (has n) (outcome_of known) (λ held all. ShowsSoFar (has n) (outcome_of known trees) held all) trees c.deref-variant-items.result.now
      c.loop-variant.variant-index c.variant-item.result c.loop-variant.all c.place_under.new.self c.loop-variant-test.true c.variant-item.is (c.loop-variant.invariant.so_far n right admitted)
      (λ held also so_far.
      shown_so_far (has n) (outcome_of known trees) (outcome_of known (before (has n) c.variant-item.result.parts.items none)) held (condition_of c.variant-item.result.when) c.in_ok-structure.structure c.loop-variant.all c.place_under.new.self
      (c.in_ok-place_under.ensures (has n))
      (subst (λ ps. ShowsSoFar (has n) (outcome_of known (before (has n) ps none)) true c.in_ok-structure.structure) c.deref.ensures.value
      (c.in_ok-structure.ensures.shows n right (ap (value (has n)) c.loop-variant.invariant.kept ∙ admitted))) also so_far);
}

pub returns-clause-shows : goal.returns-clause-shows
returns-clause-shows g c = λ n right admitted.
    let known = g.K.Knowledge.known c.args.known.now n in
    let trees = parts_at (has n) k.Selection 0 (plain_choices c.args.parts.now) in
    all_placed (has n) (outcome_of known) (λ held all. ShowsSoFar (has n) (outcome_of known trees) held all) trees c.deref-variant-items.result.now
    c.loop-variant.variant-index c.loop-variant.all c.loop-variant-test.false (c.loop-variant.invariant.so_far n right admitted)
    (subst (λ vs. Stands (has n) trees (shown (has n) vs)) (sym c.deref-variant-items.ensures.value) (c.in_ok-variants.ensures.stands n admitted))
