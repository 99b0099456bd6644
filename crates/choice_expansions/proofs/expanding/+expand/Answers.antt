use Rattle.std.proofs.Common.{◌+◌, ◌≤◌, [], ◌∷◌, drop, refl, sym, ap, ◌∙◌, subst, arith}
use Rattle.cond_formula.specs.Features.{has}
use Rattle.cond_formula.specs.Conditions.{condition_of, value}
use Rattle.conditional.specs.Entries.{seen, under}
use Rattle.c_tree.specs.Trees.{none}
use Rattle.choice_trees.specs.ChoiceTrees.{plain_choices}
use Rattle.choice_trees.specs.Depths.{choices_depth}
use Rattle.choice_variants.specs.Variants.{part_at, before, part_depth}
use Rattle.choice_expansions.specs.Expansions.{expanded}
use Rattle.choice_expansions.proofs.Crossing.{one_part, all_parts, one_variant, all_variants}
use Rattle.choice_expansions.proofs.Deep.{parts_depth, variants_depth, part_within, variant_within, low_variants}
use Rattle.choice_expansions.proofs.expanding.+expand.Goals as goal

pub rows_of-rows_of_variant-requires : goal.rows_of-rows_of_variant-requires
rows_of-rows_of_variant-requires g t c =
    let deep : parts_depth c.variant-item.result.parts.items ≤ variants_depth c.args.variants.now =
    subst (λ x. parts_depth x.parts.items ≤ variants_depth c.args.variants.now) (sym c.variant-item.is)
    (variant_within c.args.variants.now c.loop-variant.variant-index c.variant-item.result c.loop-variant-test.true) in
    λ κs within. (omega (arith, deep, c.decreases), within)

pub rows_of-loop-variant-preserved : goal.rows_of-loop-variant-preserved
rows_of-loop-variant-preserved g t c = record {
  kept = c.in_ok-rows.ensures.kept ∙ c.loop-variant.invariant.kept;
  so_far = λ n admitted.
      one_variant (has n) c.args.variants.now c.loop-variant.variant-index c.variant-item.result c.in_ok-rows.rows.items c.loop-variant.all.items c.append.new.self.items
      c.loop-variant-test.true c.variant-item.is c.in_ok-append.ensures.items
      (c.in_ok-rows.ensures.same n (ap (value (has n)) c.loop-variant.invariant.kept ∙ admitted)) (c.loop-variant.invariant.so_far n admitted);
}

pub rows_of-returns-clause-same : goal.rows_of-returns-clause-same
rows_of-returns-clause-same g t c = λ n admitted.
    all_variants (has n) c.args.variants.now c.loop-variant.variant-index c.loop-variant.all.items c.loop-variant-test.false (c.loop-variant.invariant.so_far n admitted)

pub rows_of_variant-part_expanded-requires : goal.rows_of_variant-part_expanded-requires
rows_of_variant-part_expanded-requires g t c =
    let deep : part_depth c.part-item.result ≤ parts_depth c.args.variant.now.parts.items =
    subst (λ list. part_depth c.part-item.result ≤ parts_depth list) c.deref-part-items.ensures.value
    (subst (λ x. part_depth x ≤ parts_depth c.deref-part-items.result.now) (sym c.part-item.is)
    (part_within c.deref-part-items.result.now c.loop-part.part-index c.part-item.result c.loop-part-test.true)) in
    λ κs within. (omega (arith, deep, c.decreases), within)

pub rows_of_variant-loop-part-init : goal.rows_of_variant-loop-part-init
rows_of_variant-loop-part-init g t c = record {
  kept = refl;
  so_far = λ n admitted.
      c.in_ok-rows.ensures (has n) (before (has n) c.deref-part-items.result.now none)
      ∙ ap (λ k. under (value (has n) k) (before (has n) c.deref-part-items.result.now none ∷ [])) c.in_ok-try_clone.ensures;
}

pub rows_of_variant-loop-part-preserved : goal.rows_of_variant-loop-part-preserved
rows_of_variant-loop-part-preserved g t c = record {
  kept = c.in_ok-rows-2.ensures.kept ∙ (c.in_ok-expansions.ensures.kept ∙ c.loop-part.invariant.kept);
  so_far = λ n admitted.
      one_part (has n) c.deref-part-items.result.now c.loop-part.part-index c.part-item.result c.deref.result.now c.loop-part.rows.items c.in_ok-rows-2.rows.items
      (under (value (has n) (condition_of c.args.variant.now.when)) (before (has n) c.deref-part-items.result.now none ∷ []))
      c.loop-part-test.true c.part-item.is c.deref.ensures.value
      (c.in_ok-rows-2.ensures.same n (part_at (has n) c.part-item.result) (before (has n) (drop (c.loop-part.part-index + 1) c.deref-part-items.result.now) none)
      (ap (value (has n)) (c.in_ok-expansions.ensures.kept ∙ c.loop-part.invariant.kept) ∙ admitted)
      (ap (λ list. seen (has n) (expanded list)) c.deref-in-loop-part.ensures.value ∙ c.in_ok-expansions.ensures.alone n (ap (value (has n)) c.loop-part.invariant.kept ∙ admitted)))
      (c.loop-part.invariant.so_far n admitted);
}

pub rows_of_variant-returns-clause-same : goal.rows_of_variant-returns-clause-same
rows_of_variant-returns-clause-same g t c = λ n admitted.
    all_parts (has n) c.deref-part-items.result.now c.loop-part.part-index c.loop-part.rows.items _ c.loop-part-test.false (c.loop-part.invariant.so_far n admitted)
    ∙ ap (λ list. under (value (has n) (condition_of c.args.variant.now.when)) (before (has n) list none ∷ [])) c.deref-part-items.ensures.value

pub node_expanded-rows_of-requires : goal.node_expanded-rows_of-requires
node_expanded-rows_of-requires g t c =
    let deep : variants_depth c.deref.result.now ≤ choices_depth (plain_choices c.args.parts.now) =
    subst (λ list. variants_depth list ≤ choices_depth (plain_choices c.args.parts.now)) (sym c.deref.ensures.value)
    (low_variants (choices_depth (plain_choices c.args.parts.now)) c.in_ok-all.all.items c.in_ok-all.ensures.low) in
    λ κs within. (omega (arith, deep, c.decreases), within)
