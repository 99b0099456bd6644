use Rattle.std.proofs.Common.{take}
use Rattle.std.specs.Prelude.{All}
use Rattle.c_text.specs.Token.{PlainToken}
use Rattle.c_text.specs.Lines.{plain_line}
use Rattle.class_edits.specs.Search.{HoldsAmong}
use Rattle.class_edits.proofs.places.token_in_lines.Given as goal

abbrev pub invariant-loop-line : goal.invariant-loop-line
invariant-loop-line l = All (λ line. (token : PlainToken) → HoldsAmong (plain_line line).tokens l.at token → ⊥) (take l.line-index l.lines)
