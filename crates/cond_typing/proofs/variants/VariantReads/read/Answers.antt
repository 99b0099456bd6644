use Rattle.conditional.specs.Entries.{listed, seen, first}
use Rattle.cond_nodes.specs.Reads.{callee_number}
use Rattle.cond_typing.proofs.variants.VariantReads.read.Goals as goal

pub returns : goal.returns
returns c = λ on callable r shows. record {
  outcome = shows.outcome;
  callee = record { number = first (seen on (listed callee_number c.args.self.callees)); seen = c.in_ok-callee.ensures on; same = shows.callee };
}
