use Rattle.vector_cases.proofs.Copies.{one-more}
use Rattle.vector_cases.proofs.case.copy_of.Goals as goal

pub loop-file-preserved : goal.loop-file-preserved
loop-file-preserved c =
    let pushed = c.in_ok-push.ensures in
    one-more c.deref-file-items.result.now c.loop-file.list.items c.push.new.self.items c.file-item.result c.in_ok-copy.copy c.loop-file.file-index c.loop-file-test.true c.file-item.is
    c.in_ok-copy.ensures pushed.items c.loop-file.invariant
