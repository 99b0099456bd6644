use Rattle.quick_rename.proofs.FrontLengths.{common_front, longer_than_name, other_byte}
use Rattle.quick_rename.proofs.fault.common_len.Goals.{then-i-name-via-then-i-name, then-i-name-via-else-i-name+then-name-i}
use Rattle.quick_rename.proofs.fault.common_len.Goals as goal

pub returns-then-i-name : goal.returns-then-i-name
returns-then-i-name c =
    common_front c.args.name.now c.args.word.now c.loop-i.i c.loop-i-test.true c.loop-i.invariant.same
    (elim c.then-i-name.branch [
      | then-i-name-via-then-i-name w ↦ longer_than_name c.args.name.now c.args.word.now c.loop-i.i c.loop-i-test.true w.if-i-name.true
      | then-i-name-via-else-i-name+then-name-i w ↦ other_byte c.args.name.now c.args.word.now c.loop-i.i c.loop-i-test.true (λ e. w.if-name-i.true e)
    ])
