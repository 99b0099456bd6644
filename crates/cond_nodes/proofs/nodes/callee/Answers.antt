use Rattle.std.proofs.Common.{rules, ◌<◌, None, length, subst, arith, if◌then◌else◌}
use Rattle.conditional.specs.Entries.{alternatives, Sees}
use Rattle.cond_nodes.specs.Reads.{callee_number}
use Rattle.cond_nodes.proofs.Arms.{always, read_at}
use Rattle.cond_nodes.proofs.nodes.callee.Goals as goal

pub returns : goal.returns
returns c = λ on callable reads each.
    let within : 0 < length c.args.operands.now = first_of (search rules, grind arith) in
    let h = read_at on callable reads c.args.operands.now 0 c.index-operands-0.result within each in
    record {
      number = h.callee.number;
      seen =
          subst (λ b. Sees on (if b then h.callee.number else None) (alternatives callee_number c.in_ok-same.same)) (always on)
          (c.in_ok-same.ensures on h.callee.number h.callee.seen);
      same = h.callee.same;
    }
