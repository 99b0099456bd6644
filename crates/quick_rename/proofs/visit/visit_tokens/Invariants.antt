use Rattle.std.proofs.Common.{◌≡◌, ◌≤◌, length}
use Rattle.quick_rename.proofs.Walk.{InTokens}
use Rattle.quick_rename.proofs.visit.visit_tokens.Given as goal

abbrev pub invariant-loop-symbol : goal.invariant-loop-symbol
invariant-loop-symbol g l =
    record {
      words : g.V.Visitor.words l.visitor ≡ g.V.Visitor.words l.fn.visitor;
      tokens : InTokens g.V.Visitor.took l.fn.visitor l.visitor l.line l.rest l.end;
      within : length l.rest ≤ l.end;
    }

abbrev pub decreases-loop-symbol : goal.decreases-loop-symbol
decreases-loop-symbol g l = length l.rest
