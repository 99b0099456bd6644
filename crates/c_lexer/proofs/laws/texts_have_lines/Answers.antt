use Rattle.std.proofs.Common.{refl, length}
use Rattle.c_text.specs.Splices.{spliced}
use Rattle.c_text.specs.Lines.{runs_of, lines_of}
use Rattle.c_lexer.proofs.PieceLemmas.{pieces-of}
use Rattle.c_lexer.proofs.laws.texts_have_lines.Goals as goal

pub returns : goal.returns
returns c = λ file text.
    let pieces = pieces-of (spliced text) in (
      lines_of file (runs_of 0 (length text) pieces.0),
      record { pieces = pieces.0; are_pieces = pieces.1; lines_are = refl },
    )
