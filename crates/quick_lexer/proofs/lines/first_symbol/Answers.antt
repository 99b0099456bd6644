use Rattle.std.proofs.Common.{◌≡◌, [], refl, rules}
use Rattle.quick_form.specs.Symbols.{solid_pieces}
use Rattle.quick_lexer.specs.View.{piece_view, symbol_view}
use Rattle.quick_lexer.proofs.PieceLemmas.{token_symbols-none, token_symbols-some}
use Rattle.quick_lexer.proofs.lines.first_symbol.Goals as goal

pub returns-in_err-piece-clause-none : goal.returns-in_err-piece-clause-none
returns-in_err-piece-clause-none c =
    let none : solid_pieces c.args.line.now ≡ [] = c.in_err-piece.ensures.none.0 refl in
    (λ _. token_symbols-none c.args.line.now none, λ _. search rules)

pub returns-clause-none : goal.returns-clause-none
returns-clause-none c =
    let first = token_symbols-some c.args.line.now c.in_ok-piece.rest.now (piece_view c.in_ok-piece.piece) (symbol_view c.piece_symbol.result) c.in_ok-piece.ensures.some c.piece_symbol.ensures in
    (λ e. cc, λ e. cc)

pub returns-clause-some : goal.returns-clause-some
returns-clause-some c =
    token_symbols-some c.args.line.now c.in_ok-piece.rest.now (piece_view c.in_ok-piece.piece) (symbol_view c.piece_symbol.result) c.in_ok-piece.ensures.some c.piece_symbol.ensures
