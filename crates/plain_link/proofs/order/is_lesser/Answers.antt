use Rattle.std.proofs.Common.{sym, ◌∙◌, arith}
use Rattle.plain_link.proofs.FaultLaws.{lesser_past, lesser_end}
use Rattle.plain_link.proofs.order.is_lesser.Goals as goal

pub returns-then-i-b : goal.returns-then-i-b
returns-then-i-b c = sym (lesser_past c.args.a.now c.args.b.now c.loop-i.i (omega arith) (omega arith)) ∙ c.loop-i.invariant.1

pub returns : goal.returns
returns c = sym (lesser_end c.args.a.now c.args.b.now c.loop-i.i (omega arith) (omega arith)) ∙ c.loop-i.invariant.1
