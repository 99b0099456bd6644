use Rattle.std.proofs.Common.{◌≡◌, drop, map}
use Rattle.std.specs.Map.{lookup}
use Rattle.std.specs.Str.{bytes_eq}
use Rattle.quick_lexer.specs.Reserved.{reserved}
use Rattle.quick_lexer.specs.View.{symbol_view}
use Rattle.quick_lexer.proofs.symbols.reserved_symbol.Given as goal

abbrev pub invariant-loop-spelling : goal.invariant-loop-spelling
invariant-loop-spelling l = lookup (bytes_eq l.word) (map (λ entry. (entry.0.now, symbol_view entry.1)) (drop l.spelling-index l.spelling-items)) ≡ lookup (bytes_eq l.word) reserved
