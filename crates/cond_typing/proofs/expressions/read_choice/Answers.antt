use Rattle.std.proofs.Common.{[], ◌∷◌, ap, ◌∙◌, sym, subst}
use Rattle.std.proofs.lemmas.Result.{IfOk-weaker}
use Rattle.cond_formula.specs.Features.{has}
use Rattle.cond_formula.specs.Conditions.{value}
use Rattle.c_tree.specs.declared.kinds.Kind.TheVariants as k
use Rattle.c_tree.specs.Trees.{none}
use Rattle.conditional.specs.Entries.{Stands}
use Rattle.choice_trees.specs.ChoiceTrees.{plain_branches, plain_choices, branch_at, parts_at}
use Rattle.choice_variants.specs.Variants.{before, shown}
use Rattle.cond_nodes.specs.Reads.{ShowsRead}
use Rattle.cond_typing.specs.Readings.{first_read}
use Rattle.cond_typing.specs.Progress.{ShowsSoFar}
use Rattle.cond_typing.proofs.PartsBehindParts.{only_part}
use Rattle.cond_typing.proofs.VariantsPlaced.{none_placed, next_placed, all_placed}
use Rattle.cond_typing.proofs.expressions.read_choice.Goals as goal

pub loop-variant-init : goal.loop-variant-init
loop-variant-init g c = record {
  kept = c.in_ok-variants.ensures.kept;
  so_far = λ n right admitted.
      let known = g.K.Knowledge.known c.args.known.now n in
      let callable = g.K.Knowledge.callable c.args.known.now n in
      let trees = parts_at (has n) k.Parenthesized 0 (plain_choices (c.args.choice.now ∷ [])) in
      none_placed (has n) (first_read known) (λ held all. ShowsSoFar (has n) callable (first_read known trees) held all) trees c.deref-variant-items.result.now c.nothing-all.result
      (c.nothing-all.ensures (has n) callable (first_read known trees))
      (subst (λ vs. Stands (has n) trees (shown (has n) vs)) (sym c.deref-variant-items.ensures.value)
      (subst (λ list. Stands (has n) (parts_at (has n) k.Parenthesized 0 (plain_choices list)) (shown (has n) c.in_ok-variants.variants.items)) c.from_ref.ensures.value (c.in_ok-variants.ensures.stands n admitted)));
}

pub loop-variant-preserved : goal.loop-variant-preserved
loop-variant-preserved g c = record {
  kept = c.in_ok-read.ensures.kept ∙ c.loop-variant.invariant.kept;
  so_far = λ n right admitted.
      let known = g.K.Knowledge.known c.args.known.now n in
      let callable = g.K.Knowledge.callable c.args.known.now n in
      let trees = parts_at (has n) k.Parenthesized 0 (plain_choices (c.args.choice.now ∷ [])) in
      next_placed (has n) (first_read known) (λ held all. ShowsSoFar (has n) callable (first_read known trees) held all) trees c.deref-variant-items.result.now
      c.loop-variant.variant-index c.variant-item.result c.loop-variant.all c.place.new.self c.loop-variant-test.true c.variant-item.is (c.loop-variant.invariant.so_far n right admitted)
      (λ held also so_far. c.in_ok-place.ensures (has n) callable (first_read known trees) (first_read known (before (has n) c.variant-item.result.parts.items none)) held
      (subst (λ ps. ShowsRead (has n) callable (first_read known (before (has n) ps none)) c.in_ok-read.read) c.deref.ensures.value
      (c.in_ok-read.ensures.shows n right (ap (value (has n)) c.loop-variant.invariant.kept ∙ admitted))) also so_far);
}

pub returns-clause-shows : goal.returns-clause-shows
returns-clause-shows g c =
    IfOk-weaker c.read.result _ _ (λ z reads n right admitted.
    let known = g.K.Knowledge.known c.args.known.now n in
    let callable = g.K.Knowledge.callable c.args.known.now n in
    let trees = parts_at (has n) k.Parenthesized 0 (plain_choices (c.args.choice.now ∷ [])) in
    subst (λ r. ShowsRead (has n) callable r z) (only_part known (branch_at (has n) (plain_branches c.args.choice.now.branches.items)))
    (reads (has n) callable (first_read known trees)
    (all_placed (has n) (first_read known) (λ held all. ShowsSoFar (has n) callable (first_read known trees) held all) trees c.deref-variant-items.result.now
    c.loop-variant.variant-index c.loop-variant.all c.loop-variant-test.false (c.loop-variant.invariant.so_far n right admitted)
    (subst (λ vs. Stands (has n) trees (shown (has n) vs)) (sym c.deref-variant-items.ensures.value)
    (subst (λ list. Stands (has n) (parts_at (has n) k.Parenthesized 0 (plain_choices list)) (shown (has n) c.in_ok-variants.variants.items)) c.from_ref.ensures.value (c.in_ok-variants.ensures.stands n admitted)))))) c.read.ensures
