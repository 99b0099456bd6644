use Rattle.std.proofs.Common.{refl, ap, ◌∙◌, subst}
use Rattle.cond_formula.specs.Features.{has}
use Rattle.cond_formula.specs.Conditions.{condition_of, value}
use Rattle.conditional.specs.Entries.{seen}
use Rattle.c_tree.specs.Trees.{none}
use Rattle.choice_variants.specs.Variants.{before, variant_before, shown}
use Rattle.type_tables.specs.Seen.{seen_tables}
use Rattle.type_tables.proofs.LocalsAlone.{nothing_changed, locals_again}
use Rattle.cond_locals.specs.Declaring.{DeclaresLocals}
use Rattle.conditional_steps.specs.Here.{Unchanged}
use Rattle.conditional_steps.proofs.Alternatives.{unchanged, unchanged_beside, Alternates, alternates_begin, alternates_next, alternates_end}
use Rattle.conditional_steps.proofs.FirstAlternative.{next_seen, none_seen}
use Rattle.cond_locals.proofs.declarations.declare_each.Goals as goal

pub loop-variant-init : goal.loop-variant-init
loop-variant-init g c = record {
  kept = refl;
  outside = nothing_changed c.args.tables.now;
  so_far = λ n parts admitted alone.
      alternates_begin unchanged (unchanged_beside DeclaresLocals) parts (seen_tables (has n) c.args.tables.now) (value (has n) (condition_of c.args.when.now))
      (seen (has n) (shown (has n) c.args.variants.now)) (value (has n) (condition_of c.in_ok-refused.refused)) (c.in_ok-refused.ensures (has n)) alone;
}

pub loop-variant-preserved : goal.loop-variant-preserved
loop-variant-preserved g c = record {
  kept = c.in_ok-found.ensures.kept ∙ c.loop-variant.invariant.kept;
  outside = locals_again c.args.tables.now c.loop-variant.tables c.declare_variant.new.tables c.loop-variant.invariant.outside c.in_ok-found.ensures.outside;
  so_far = λ n parts admitted alone.
      alternates_next unchanged (unchanged_beside DeclaresLocals) parts (seen_tables (has n) c.args.tables.now)
      (before (has n) c.variant-item.result.parts.items none) (value (has n) (condition_of c.args.when.now)) (value (has n) (condition_of c.variant-item.result.when)) _ _
      (seen_tables (has n) c.loop-variant.tables) (seen_tables (has n) c.declare_variant.new.tables)
      (value (has n) (condition_of c.loop-variant.refused)) (value (has n) (condition_of c.in_ok-found.found)) (value (has n) (condition_of c.in_ok-refused-2.refused))
      (next_seen (has n) (variant_before (has n) none) c.args.variants.now c.loop-variant.variant-index c.variant-item.result c.loop-variant-test.true c.variant-item.is)
      (c.in_ok-refused-2.ensures (has n)) (c.in_ok-found.ensures.declares n (ap (value (has n)) c.loop-variant.invariant.kept ∙ admitted)) (c.loop-variant.invariant.so_far n parts admitted alone);
}

pub returns-clause-declares : goal.returns-clause-declares
returns-clause-declares g c = λ n parts admitted alone.
    alternates_end unchanged (unchanged_beside DeclaresLocals) parts (seen_tables (has n) c.args.tables.now) (value (has n) (condition_of c.args.when.now))
    (seen_tables (has n) c.loop-variant.tables) (value (has n) (condition_of c.loop-variant.refused))
    (subst (λ list. Alternates Unchanged DeclaresLocals parts (seen_tables (has n) c.args.tables.now) (value (has n) (condition_of c.args.when.now)) list
    (seen_tables (has n) c.loop-variant.tables) (value (has n) (condition_of c.loop-variant.refused)))
    (none_seen (has n) (variant_before (has n) none) c.args.variants.now c.loop-variant.variant-index c.loop-variant-test.false)
    (c.loop-variant.invariant.so_far n parts admitted alone))
