use Rattle.reduced_conditions.proofs.LiteralLaws.{listed_more}
use Rattle.reduced_conditions.proofs.conjunctions.features.Goals as goal

pub loop-rest-preserved : goal.loop-rest-preserved
loop-rest-preserved c =
    listed_more c.args.bits c.loop-rest.rest c.without_bit-rest.result c.lowest-feature.result c.loop-rest.parts.items c.push.new.self.items
    c.lowest-feature.ensures.set c.without_bit-rest.ensures.gone c.without_bit-rest.ensures.kept c.in_ok-push.ensures.items c.loop-rest.invariant
