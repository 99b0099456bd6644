use Rattle.std.proofs.Common.{take}
use Rattle.std.specs.Prelude.{All}
use Rattle.text_edits.specs.Span.{Covers}
use Rattle.class_edits.proofs.places.token_among.Given as goal

abbrev pub invariant-loop-token : goal.invariant-loop-token
invariant-loop-token l = All (λ token. Covers token.origin.span l.at → ⊥) (take l.token-index l.tokens)
