-- What the pieces that the code finds are in the definitions' terms.
use Rattle.c_text.specs.Pieces as pieces
use Rattle.c_lexer.specs.declared.pieces.PieceKind.{PieceKind}
use Rattle.c_lexer.specs.declared.pieces.PieceKind.TheVariants.{Space, LineEnd, Token}

abbrev pub kind_view : PieceKind → pieces.PieceKind
kind_view Space = pieces.space
kind_view LineEnd = pieces.line_end
kind_view (Token kind) = pieces.token kind
