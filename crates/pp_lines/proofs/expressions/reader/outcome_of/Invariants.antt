use Rattle.std.proofs.Common.{◌≡◌, map, drop}
use Rattle.c_text.specs.Token.{plain_token}
use Rattle.c_text.specs.Expressions.{word_of}
use Rattle.pp_lines.specs.ExpressionReading.{outcomes, read, at_start}
use Rattle.pp_lines.specs.ExpressionView.{reader_view}
use Rattle.pp_lines.proofs.expressions.reader.outcome_of.Given as goal

abbrev pub invariant-loop-token : goal.invariant-loop-token
invariant-loop-token l =
    read outcomes (reader_view l.reader) (map word_of (map plain_token (drop l.token-index l.tokens)))
    ≡ read outcomes at_start (map word_of (map plain_token l.tokens))
