use Rattle.std.proofs.Common.{take, sym, arith}
use Rattle.std.proofs.lemmas.List.{take_all}
use Rattle.std.proofs.lemmas.List.Elements.{All-same}
use Rattle.c_text.specs.declared.token.Token.{Token}
use Rattle.text_edits.specs.Span.{Covers}
use Rattle.class_edits.proofs.Searching.{none-among}
use Rattle.class_edits.proofs.places.token_among.Goals as goal

pub returns : goal.returns
returns c =
    let tokens = c.args.tokens.now in
    let i = c.loop-token.token-index in
    none-among tokens c.args.at
    (All-same (λ (token : Token). Covers token.origin.span c.args.at → ⊥) tokens (take i tokens) (sym (take_all i tokens (omega arith))) c.loop-token.invariant)
