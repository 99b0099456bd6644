use Rattle.std.proofs.Common.{◌≡◌, ◌≤◌, ◌+◌, length}
use Rattle.quick_rename.proofs.Walk.{InFile, text_size}
use Rattle.quick_rename.proofs.visit.visit.Given as goal

abbrev pub invariant-loop-text : goal.invariant-loop-text
invariant-loop-text g l =
    record {
      words : g.V.Visitor.words l.visitor ≡ g.V.Visitor.words l.fn.visitor;
      file : InFile g.V.Visitor.took l.fn.visitor l.visitor l.bytes l.text;
      within : text_size l.text ≤ length l.bytes + 1;
    }

abbrev pub decreases-loop-text : goal.decreases-loop-text
decreases-loop-text g l = text_size l.text
