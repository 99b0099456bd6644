use Rattle.std.proofs.Common.{refl, add-one, arith}
use Rattle.cond_expressions.proofs.SmallLaws.{front_more}
use Rattle.cond_expressions.proofs.conditions.common_front.Goals as goal

pub loop-i-preserved : goal.loop-i-preserved
loop-i-preserved c = record {
  counted = refl;
  same = rw add-one (front_more c.args.a.now c.args.b.now c.loop-i.i c.index-a-i.result c.index-b-i.result (omega arith) (omega arith) c.index-a-i.is c.index-b-i.is (c.is_same.ensures c.if-not-is_same.false) c.loop-i.invariant.same);
}
