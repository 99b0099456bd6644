use Rattle.std.proofs.Common.{Bool, false, ◌&&◌, refl, ap, ◌∙◌, subst}
use Rattle.cond_formula.specs.Features.{has}
use Rattle.cond_formula.specs.Conditions.{condition_of, value}
use Rattle.conditional.specs.Entries.{seen}
use Rattle.c_tree.specs.Trees.{PlainTrees, none}
use Rattle.choice_variants.specs.Variants.{before, variant_before, shown}
use Rattle.conditional_steps.specs.Here.{Unchanged}
use Rattle.conditional_steps.proofs.Alternatives.{unchanged, unchanged_beside, Alternates, alternates_begin, alternates_next, alternates_end}
use Rattle.conditional_steps.proofs.FirstAlternative.{next_seen, none_seen}
use Rattle.cond_member_uses.specs.Noted.{Noted, noted_at}
use Rattle.cond_unit_uses.proofs.OneBlock.{done_where, where_done}
use Rattle.cond_unit_uses.proofs.variants.note_each.Goals as goal

pub loop-variant-init : goal.loop-variant-init
loop-variant-init g c = record {
  kept = refl;
  same = λ on. refl;
  so_far = λ n parts admitted alone.
      alternates_begin unchanged (unchanged_beside (λ (parts : PlainTrees) (a b : Noted) (refused : Bool). g.R.PartsReader.notes c.args.reader.now n parts a b)) parts (noted_at (has n) c.args.tables.now c.args.log.now)
      (value (has n) (condition_of c.args.when.now)) (seen (has n) (shown (has n) c.args.variants.now)) false refl alone;
}

pub loop-variant-preserved : goal.loop-variant-preserved
loop-variant-preserved g c = record {
  kept = c.in_ok-note_variant.ensures.kept ∙ c.loop-variant.invariant.kept;
  same = λ on. c.in_ok-note_variant.ensures.same on ∙ c.loop-variant.invariant.same on;
  so_far = λ n parts admitted alone.
      let variant = before (has n) c.variant-item.result.parts.items none in
      let old = noted_at (has n) c.loop-variant.tables c.loop-variant.log in
      let new = noted_at (has n) c.note_variant.new.tables c.note_variant.new.log in
      alternates_next unchanged (unchanged_beside (λ (parts : PlainTrees) (a b : Noted) (refused : Bool). g.R.PartsReader.notes c.args.reader.now n parts a b)) parts (noted_at (has n) c.args.tables.now c.args.log.now)
      variant (value (has n) (condition_of c.args.when.now)) (value (has n) (condition_of c.variant-item.result.when)) _ _ old new false false false
      (next_seen (has n) (variant_before (has n) none) c.args.variants.now c.loop-variant.variant-index c.variant-item.result c.loop-variant-test.true c.variant-item.is) refl
      (done_where (value (has n) (condition_of c.args.when.now) && value (has n) (condition_of c.variant-item.result.when)) (g.R.PartsReader.notes c.args.reader.now n variant) old new
      (c.in_ok-note_variant.ensures.notes n (ap (value (has n)) c.loop-variant.invariant.kept ∙ admitted))) (c.loop-variant.invariant.so_far n parts admitted alone);
}

pub returns-clause-notes : goal.returns-clause-notes
returns-clause-notes g c = λ n parts admitted alone.
    let old = noted_at (has n) c.args.tables.now c.args.log.now in
    let now = noted_at (has n) c.loop-variant.tables c.loop-variant.log in
    where_done (value (has n) (condition_of c.args.when.now)) (g.R.PartsReader.notes c.args.reader.now n parts) old now
    (alternates_end unchanged (unchanged_beside (λ (parts : PlainTrees) (a b : Noted) (refused : Bool). g.R.PartsReader.notes c.args.reader.now n parts a b)) parts old (value (has n) (condition_of c.args.when.now)) now false
    (subst (λ list. Alternates Unchanged (λ (parts : PlainTrees) (a b : Noted) (refused : Bool). g.R.PartsReader.notes c.args.reader.now n parts a b) parts old (value (has n) (condition_of c.args.when.now)) list now false)
    (none_seen (has n) (variant_before (has n) none) c.args.variants.now c.loop-variant.variant-index c.loop-variant-test.false)
    (c.loop-variant.invariant.so_far n parts admitted alone)))
