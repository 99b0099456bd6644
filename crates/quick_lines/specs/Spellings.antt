-- What tokens spell, wherever they stand, and what the symbols of a quick file spell.
use Rattle.std.specs.Prelude.{ℕ, Bool, true, false, List, [], ◌∷◌, map, codes}
use Rattle.c_text.specs.declared.token.TokenKind.{TokenKind}
use Rattle.c_text.specs.declared.token.TokenKind.TheVariants as kind
use Rattle.c_text.specs.Token.{PlainToken}
use Rattle.quick_form.specs.Symbols.{Symbol, Ifdef, Else, Endif}
use Rattle.quick_trees.specs.Tokens.{symbol_kind, symbol_text}

-- a token without its place: its kind and its bytes
pub record Spelling : Type 0 where
  pub kind : TokenKind
  pub text : List ℕ

abbrev pub spelling : TokenKind → List ℕ → Spelling
spelling kind text = record { kind = kind; text = text }

abbrev pub spelling_of : PlainToken → Spelling
spelling_of token = spelling token.kind token.text

abbrev pub spellings_of : List PlainToken → List Spelling
spellings_of tokens = map spelling_of tokens

abbrev pub hash : Spelling
hash = spelling kind.Punctuator (codes "#")

-- what a symbol outside directive lines spells
abbrev pub symbol_spelling : Symbol → Spelling
symbol_spelling k = spelling (symbol_kind k) (symbol_text k)

-- A directive line begins with `#`; `else` is a keyword outside directives.
abbrev pub spelled_symbol : Symbol → List Spelling
spelled_symbol (Ifdef n) = hash ∷ spelling kind.Name (codes "ifdef") ∷ spelling kind.Name n ∷ []
spelled_symbol Else = hash ∷ spelling kind.Keyword (codes "else") ∷ []
spelled_symbol Endif = hash ∷ spelling kind.Name (codes "endif") ∷ []
spelled_symbol k = symbol_spelling k ∷ []

-- a symbol that is a directive line
abbrev pub is_directive : Symbol → Bool
is_directive (Ifdef n) = true
is_directive Else = true
is_directive Endif = true
is_directive k = false
