use Rattle.std.proofs.Common.{Option, Some, None}
use Rattle.std.specs.Option.{IfSome}
use Rattle.quick_lexer.specs.View.{piece_view}
use Rattle.quick_lexer.proofs.PieceLemmas.{BeginsWith-blanks}
use Rattle.quick_lexer.proofs.pieces.first_solid_piece.Goals as goal

-- what follows from what two clauses say of the value in a `Some`
both_then : {X : Type 0} (r : Option X) {P Q R : X → Type 0} → IfSome r P → IfSome r Q → ((x : X) → P x → Q x → R x) → IfSome r R
both_then None p q f = tt
both_then (Some x) p q f = f x p q

pub returns-clause-bytes : goal.returns-clause-bytes
returns-clause-bytes c =
    both_then c.first_piece.result c.first_piece.ensures.bytes c.first_piece.ensures.cut
    (λ r. BeginsWith-blanks c.args.line.now c.without_blanks.result.now r.1.now (piece_view r.0) c.without_blanks.ensures.blanks)
