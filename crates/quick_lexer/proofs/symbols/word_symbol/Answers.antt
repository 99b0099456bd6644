use Rattle.std.proofs.Common.{sym}
use Rattle.quick_lexer.specs.View.{symbol_view}
use Rattle.quick_lexer.proofs.ReservedLemmas.{reserved_word}
use Rattle.quick_lexer.proofs.symbols.word_symbol.Goals as goal

pub returns-in-Some : goal.returns-in-Some
returns-in-Some c = reserved_word c.args.word.now (symbol_view c.in-Some.symbol) (sym c.in-Some.ensures)
