-- What the grammar tells apart in tokens (ISO/IEC 9899:2011, 6.4.1, 6.4.6).
use Rattle.std.specs.Prelude.{ℕ, Bool, List, [], ◌∷◌, ◌==◌, codes, if◌then◌else◌}
use Rattle.std.specs.List.{list_any}
use Rattle.std.specs.Str.{bytes_eq}
use Rattle.c_text.specs.declared.token.TokenKind.{TokenKind}
use Rattle.c_text.specs.declared.token.TokenKind.TheVariants as token
use Rattle.c_text.specs.Token.{PlainToken}
use Rattle.c_tree.specs.declared.terminals.Terminal.{Terminal}
use Rattle.c_tree.specs.declared.terminals.Terminal.TheVariants.{Name, Number, Character, Text, OpenParenthesis, CloseParenthesis, OpenBracket, CloseBracket, OpenBrace, CloseBrace, Semicolon, Comma, Question, Colon, Select, Step, Ampersand, Star, Sign, Negation, Divide, Shift, Relation, Equality, Caret, Bar, AndAnd, OrOr, Assign, CompoundAssign, Void, Char, Unsigned, Int, Long, Struct, Static, Extern, Inline, If, Else, While, Do, For, Jump, Return, Other}

-- a spelling of a keyword or a punctuator, and what it is
pub record Spelling : Type 0 where
  pub text : List ℕ
  pub terminal : Terminal

abbrev pub spells : List ℕ → Terminal → Spelling
spells text terminal = record { text = text; terminal = terminal }

abbrev pub keywords : List Spelling
keywords =
    spells (codes "void") Void ∷ spells (codes "char") Char ∷ spells (codes "unsigned") Unsigned ∷ spells (codes "int") Int
    ∷ spells (codes "long") Long ∷ spells (codes "struct") Struct ∷ spells (codes "static") Static
    ∷ spells (codes "extern") Extern ∷ spells (codes "inline") Inline ∷ spells (codes "if") If ∷ spells (codes "else") Else
    ∷ spells (codes "while") While ∷ spells (codes "do") Do ∷ spells (codes "for") For ∷ spells (codes "break") Jump
    ∷ spells (codes "continue") Jump ∷ spells (codes "return") Return ∷ []

abbrev pub punctuators : List Spelling
punctuators =
    spells (codes "(") OpenParenthesis ∷ spells (codes ")") CloseParenthesis ∷ spells (codes "[") OpenBracket
    ∷ spells (codes "]") CloseBracket ∷ spells (codes "{") OpenBrace ∷ spells (codes "}") CloseBrace
    ∷ spells (codes ";") Semicolon ∷ spells (codes ",") Comma ∷ spells (codes "?") Question ∷ spells (codes ":") Colon
    ∷ spells (codes ".") Select ∷ spells (codes "->") Select ∷ spells (codes "++") Step ∷ spells (codes "--") Step
    ∷ spells (codes "&") Ampersand ∷ spells (codes "*") Star ∷ spells (codes "+") Sign ∷ spells (codes "-") Sign
    ∷ spells (codes "~") Negation ∷ spells (codes "!") Negation ∷ spells (codes "/") Divide ∷ spells (codes "%") Divide
    ∷ spells (codes "<<") Shift ∷ spells (codes ">>") Shift ∷ spells (codes "<") Relation ∷ spells (codes ">") Relation
    ∷ spells (codes "<=") Relation ∷ spells (codes ">=") Relation ∷ spells (codes "==") Equality
    ∷ spells (codes "!=") Equality ∷ spells (codes "^") Caret ∷ spells (codes "|") Bar ∷ spells (codes "&&") AndAnd
    ∷ spells (codes "||") OrOr ∷ spells (codes "=") Assign ∷ spells (codes "*=") CompoundAssign
    ∷ spells (codes "/=") CompoundAssign ∷ spells (codes "%=") CompoundAssign ∷ spells (codes "+=") CompoundAssign
    ∷ spells (codes "-=") CompoundAssign ∷ spells (codes "<<=") CompoundAssign ∷ spells (codes ">>=") CompoundAssign
    ∷ spells (codes "&=") CompoundAssign ∷ spells (codes "^=") CompoundAssign ∷ spells (codes "|=") CompoundAssign ∷ []

abbrev pub found : List ℕ → List Spelling → Terminal
found text [] = Other
found text (first ∷ rest) = if bytes_eq text first.text then first.terminal else found text rest

abbrev pub terminal_of : TokenKind → List ℕ → Terminal
terminal_of token.Name text = Name
terminal_of token.Keyword text = found text keywords
terminal_of token.Number text = Number
terminal_of token.Character text = Character
terminal_of token.Text text = Text
terminal_of token.Punctuator text = found text punctuators
terminal_of (token.Bad kind) text = Other

-- what a token is to the grammar
abbrev pub terminal : PlainToken → Terminal
terminal t = terminal_of t.kind t.text

-- the terminals by numbers, to compare them
abbrev pub number : Terminal → ℕ
number Name = 0
number Number = 1
number Character = 2
number Text = 3
number OpenParenthesis = 4
number CloseParenthesis = 5
number OpenBracket = 6
number CloseBracket = 7
number OpenBrace = 8
number CloseBrace = 9
number Semicolon = 10
number Comma = 11
number Question = 12
number Colon = 13
number Select = 14
number Step = 15
number Ampersand = 16
number Star = 17
number Sign = 18
number Negation = 19
number Divide = 20
number Shift = 21
number Relation = 22
number Equality = 23
number Caret = 24
number Bar = 25
number AndAnd = 26
number OrOr = 27
number Assign = 28
number CompoundAssign = 29
number Void = 30
number Char = 31
number Unsigned = 32
number Int = 33
number Long = 34
number Struct = 35
number Static = 36
number Extern = 37
number Inline = 38
number If = 39
number Else = 40
number While = 41
number Do = 42
number For = 43
number Jump = 44
number Return = 45
number Other = 46

abbrev pub same : Terminal → Terminal → Bool
same a b = number a == number b

abbrev pub is_one_of : List Terminal → Terminal → Bool
is_one_of terminals t = list_any (same t) terminals
