use Rattle.std.proofs.Common.{sym, ap, ◌∙◌, length}
use Rattle.c_text.specs.Splices.{spliced}
use Rattle.c_text.specs.Lines.{runs_of, lines_of}
use Rattle.c_lexer.proofs.PieceLemmas.{pieces-one}
use Rattle.c_lexer.proofs.laws.lines_are_one.Goals as goal

pub returns : goal.returns
returns c = λ file text a b one other.
    one.lines_are
    ∙ ap (λ ps. lines_of file (runs_of 0 (length text) ps)) (pieces-one (spliced text) one.pieces other.pieces one.are_pieces other.are_pieces)
    ∙ sym other.lines_are
