-- What a symbol and a piece of this crate, which hold slices of the file, are in the definitions' terms.
use Rattle.std.specs.Prelude.{ℕ, List}
use Rattle.std.specs.List.{flat_map}
use Rattle.quick_form.specs.Symbols as spec
use Rattle.quick_lexer.specs.declared.symbols.Symbol.{Symbol}
use Rattle.quick_lexer.specs.declared.symbols.Symbol.TheVariants.{Int, Void, While, Return, Putchar, Main, Name, Number, Mark, Ifdef, Else, Endif, Malformed}
use Rattle.quick_lexer.specs.declared.pieces.Piece.{Piece}
use Rattle.quick_lexer.specs.declared.pieces.Piece.TheVariants.{Word, Other}

abbrev pub symbol_view : Symbol → spec.Symbol
symbol_view Int = spec.Int
symbol_view Void = spec.Void
symbol_view While = spec.While
symbol_view Return = spec.Return
symbol_view Putchar = spec.Putchar
symbol_view Main = spec.Main
symbol_view (Name word) = spec.Name word.now
symbol_view (Number word) = spec.Number word.now
symbol_view (Mark byte) = spec.Mark byte
symbol_view (Ifdef word) = spec.Ifdef word.now
symbol_view Else = spec.Else
symbol_view Endif = spec.Endif
symbol_view Malformed = spec.Malformed

abbrev pub piece_view : Piece → spec.Piece
piece_view (Word word) = spec.Word word.now
piece_view (Other byte) = spec.Other byte

-- the symbols of a line's tokens, if it is no directive line
abbrev pub token_symbols : List ℕ → List spec.Symbol
token_symbols line = flat_map spec.piece_symbols (spec.pieces_of line)
