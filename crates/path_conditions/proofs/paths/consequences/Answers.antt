use Rattle.std.proofs.Common.{◌∙◌}
use Rattle.reduced_conditions.proofs.PartLemmas.{part_of_all}
use Rattle.path_conditions.proofs.paths.consequences.Goals as goal

pub loop-known-preserved : goal.loop-known-preserved
loop-known-preserved c = λ on all.
    let known = part_of_all on c.args.path.now c.loop-known.known-index c.known-item.result c.loop-known-test.true c.known-item.is all in
    c.in_ok-push_new.ensures on all (c.in_ok-f.ensures on all known) ∙ c.loop-known.invariant on all
