use Rattle.std.proofs.Common.{◌≡◌, [], drop}
use Rattle.feature_model.specs.Bytes.{lexing, in_blank, lexed}
use Rattle.feature_model.specs.View.{lexer_view}
use Rattle.feature_model.proofs.lexer.tokens_of.Given as goal

abbrev pub invariant-loop-byte : goal.invariant-loop-byte
invariant-loop-byte l = lexed (lexer_view l.lexer) (drop l.byte-index l.text) ≡ lexed (lexing [] in_blank) l.text
