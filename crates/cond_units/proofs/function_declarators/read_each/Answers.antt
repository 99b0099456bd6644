use Rattle.std.proofs.Common.{refl, ap, ◌∙◌, subst}
use Rattle.cond_formula.specs.Features.{has}
use Rattle.cond_formula.specs.Conditions.{condition_of, value}
use Rattle.conditional.specs.Entries.{seen}
use Rattle.conditional_steps.proofs.Alternatives.{Alternates, alternates_begin, alternates_next, alternates_end}
use Rattle.conditional_steps.proofs.FirstAlternative.{next_seen, none_seen}
use Rattle.c_tree.specs.Trees.{none}
use Rattle.choice_variants.specs.Variants.{before, variant_before, shown}
use Rattle.cond_units.specs.Seen.{seen_unit}
use Rattle.cond_units.specs.Declaring.{Declares}
use Rattle.cond_units.specs.Functions.{HasList, judged_parts}
use Rattle.cond_units.specs.Where.{Stays}
use Rattle.cond_units.proofs.Staying.{staying, declares_stable}
use Rattle.cond_units.proofs.function_declarators.read_each.Goals as goal

pub loop-variant-init : goal.loop-variant-init
loop-variant-init g c = record {
  kept = refl;
  so_far = λ n parts admitted alone.
      alternates_begin staying (declares_stable (has n) c.args.reading.now.base.now (λ parts. judged_parts (g.R.HeadReader.judged c.args.reading.now.reader.now n) parts) (λ parts. HasList parts × g.R.HeadReader.ready c.args.reading.now.reader.now n)) parts (seen_unit (has n) c.args.unit.now) (value (has n) (condition_of c.args.when.now))
      (seen (has n) (shown (has n) c.args.variants.now)) (value (has n) (condition_of c.in_ok-refused.refused)) (c.in_ok-refused.ensures (has n)) alone;
}

pub loop-variant-preserved : goal.loop-variant-preserved
loop-variant-preserved g c = record {
  kept = c.in_ok-found.ensures.kept ∙ c.loop-variant.invariant.kept;
  so_far = λ n parts admitted alone.
      alternates_next staying (declares_stable (has n) c.args.reading.now.base.now (λ parts. judged_parts (g.R.HeadReader.judged c.args.reading.now.reader.now n) parts) (λ parts. HasList parts × g.R.HeadReader.ready c.args.reading.now.reader.now n)) parts (seen_unit (has n) c.args.unit.now)
      (before (has n) c.variant-item.result.parts.items none) (value (has n) (condition_of c.args.when.now)) (value (has n) (condition_of c.variant-item.result.when)) _ _
      (seen_unit (has n) c.loop-variant.unit) (seen_unit (has n) c.read_variant.new.unit)
      (value (has n) (condition_of c.loop-variant.refused)) (value (has n) (condition_of c.in_ok-found.found)) (value (has n) (condition_of c.in_ok-refused-2.refused))
      (next_seen (has n) (variant_before (has n) none) c.args.variants.now c.loop-variant.variant-index c.variant-item.result c.loop-variant-test.true c.variant-item.is)
      (c.in_ok-refused-2.ensures (has n)) (c.in_ok-found.ensures.declares n (ap (value (has n)) c.loop-variant.invariant.kept ∙ admitted)) (c.loop-variant.invariant.so_far n parts admitted alone);
}

pub returns-clause-declares : goal.returns-clause-declares
returns-clause-declares g c = λ n parts admitted alone.
    alternates_end staying (declares_stable (has n) c.args.reading.now.base.now (λ parts. judged_parts (g.R.HeadReader.judged c.args.reading.now.reader.now n) parts) (λ parts. HasList parts × g.R.HeadReader.ready c.args.reading.now.reader.now n)) parts (seen_unit (has n) c.args.unit.now) (value (has n) (condition_of c.args.when.now))
    (seen_unit (has n) c.loop-variant.unit) (value (has n) (condition_of c.loop-variant.refused))
    (subst (λ list. Alternates Stays (λ parts. Declares (has n) c.args.reading.now.base.now (judged_parts (g.R.HeadReader.judged c.args.reading.now.reader.now n) parts) (HasList parts × g.R.HeadReader.ready c.args.reading.now.reader.now n)) parts (seen_unit (has n) c.args.unit.now) (value (has n) (condition_of c.args.when.now)) list
    (seen_unit (has n) c.loop-variant.unit) (value (has n) (condition_of c.loop-variant.refused)))
    (none_seen (has n) (variant_before (has n) none) c.args.variants.now c.loop-variant.variant-index c.loop-variant-test.false)
    (c.loop-variant.invariant.so_far n parts admitted alone))
