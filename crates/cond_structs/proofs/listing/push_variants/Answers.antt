use Rattle.cond_formula.specs.Conditions.{condition_of, value}
use Rattle.conditional.specs.Entries.{seen}
use Rattle.cond_structs.specs.Listing.{declarations_at}
use Rattle.cond_structs.proofs.Listed.{variant_step, variants_end}
use Rattle.cond_structs.proofs.listing.push_variants.Goals as goal

pub loop-variant-preserved : goal.loop-variant-preserved
loop-variant-preserved c = λ on.
    variant_step on (value on (condition_of c.args.here.now)) c.args.variants.now c.loop-variant.variant-index c.variant-item.result (seen on (declarations_at on c.loop-variant.all.items)) (seen on (declarations_at on c.push_variant.new.all.items)) _
    c.loop-variant-test.true c.variant-item.is (c.loop-variant.invariant on) (c.in_ok-push_variant.ensures on)

pub returns : goal.returns
returns c = λ on.
    variants_end on (value on (condition_of c.args.here.now)) c.args.variants.now c.loop-variant.variant-index (seen on (declarations_at on c.loop-variant.all.items)) _ c.loop-variant-test.false (c.loop-variant.invariant on)
