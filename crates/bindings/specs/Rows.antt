-- Worked examples, no part of the definitions: units that are written with a blank between two tokens, and what their identifiers are bound to.
use Rattle.std.specs.Prelude.{◌≡◌, ℕ, ◌==◌, nat_le, false, Bool, ◌&&◌, ◌||◌, List, [], ◌∷◌, ◌++◌, map, filter, codes, Option, Some, None, if◌then◌else◌}
use Rattle.text_edits.specs.Span.{PlainSpan}
use Rattle.c_text.specs.declared.origin.Place.TheVariants.{Text}
use Rattle.c_text.specs.declared.token.TokenKind.{TokenKind}
use Rattle.c_text.specs.declared.token.TokenKind.TheVariants as kind
use Rattle.c_text.specs.Token.{PlainToken}
use Rattle.c_tree.specs.declared.terminals.Terminal.TheVariants.{Other}
use Rattle.c_tree.specs.Terminals.{same, found, keywords}
use Rattle.c_tree.specs.Trees.{PlainTree}
use Rattle.c_tree.specs.Machine.{read, of_trees}
use Rattle.bindings.specs.Visible.{Binding, bound_to, undeclared, member_use}
use Rattle.bindings.specs.Bindings.{bindings_of}

-- ---- the tokens of a text

abbrev pub with_word : List ℕ → List (List ℕ) → List (List ℕ)
with_word [] others = others
with_word word others = word ∷ others

abbrev pub words_from : List ℕ → List ℕ → List (List ℕ)
words_from word [] = with_word word []
words_from word (byte ∷ rest) = if byte == 32 then with_word word (words_from [] rest) else words_from (word ++ byte ∷ []) rest

abbrev pub is_letter : ℕ → Bool
is_letter byte = (nat_le 65 byte && nat_le byte 90) || (nat_le 97 byte && nat_le byte 122)

abbrev pub kind_of : List ℕ → TokenKind
kind_of [] = kind.Punctuator
kind_of (first ∷ rest) =
    if is_letter first then (if same Other (found (first ∷ rest) keywords) then kind.Name else kind.Keyword)
    else if nat_le 48 first && nat_le first 57 then kind.Number else kind.Punctuator

abbrev pub nowhere : PlainSpan
nowhere = record { start = 0; «end» = 0 }

abbrev pub token_of : List ℕ → PlainToken
token_of word = record {
  kind = kind_of word;
  text = word;
  joined = false;
  origin = record { file = 0; span = nowhere; place = Text; site = nowhere; site_file = 0 };
}

abbrev pub tokens_of : List ℕ → List PlainToken
tokens_of text = map token_of (words_from [] text)

-- ---- what is bound

-- the identifier at a token, bound to what another one declares, or unbound
pub data Bound : Type 0 where
  bound : ℕ → ℕ → Bound
  unbound : ℕ → Bound

abbrev pub bound_or : ℕ → Option ℕ → Bound
bound_or number None = unbound number
bound_or number (Some by) = bound number by

-- the bindings, where each member that is used is one of the struct with this tag
abbrev pub shown : List ℕ → ℕ → Binding → Bound
shown tag number (bound_to by) = bound number by
shown tag number undeclared = unbound number
shown tag number (member_use which) = bound_or number (which tag)

abbrev pub bindings_in : List ℕ → Option PlainTree → List Bound
bindings_in tag None = []
bindings_in tag (Some tree) = map (λ o. shown tag o.number o.binding) (bindings_of tree)

abbrev pub Binds : List ℕ → List Bound → Type 0
Binds text expected = bindings_in (codes "S") (read of_trees (tokens_of text)) ≡ expected

-- a name of a block hides one of the block around it, up to its end
abbrev pub BlocksHide : Type 0
BlocksHide =
    Binds (codes "int x ; int f ( void ) { int x ; x = 1 ; { int x ; x = 2 ; } return x ; }")
    (bound 1 1 ∷ bound 4 4 ∷ bound 10 10 ∷ bound 12 10 ∷ bound 18 18 ∷ bound 20 18 ∷ bound 26 10 ∷ [])

-- each declaration of a function has parameters of its own; the function is one
abbrev pub PrototypesHaveTheirOwn : Type 0
PrototypesHaveTheirOwn =
    Binds (codes "int f ( int n ) ; int f ( int n ) { return n ; }") (bound 1 1 ∷ bound 4 4 ∷ bound 8 1 ∷ bound 11 11 ∷ bound 15 11 ∷ [])

-- a tag is declared at file scope alone
abbrev pub TagsAreOfFileScope : Type 0
TagsAreOfFileScope =
    Binds (codes "void f ( void ) { struct S * p ; } struct S ; struct S * q ;") (bound 1 1 ∷ unbound 7 ∷ bound 9 9 ∷ bound 13 13 ∷ bound 16 13 ∷ bound 18 18 ∷ [])

-- a struct may be named before it is complete; its members are known by its tag
abbrev pub StructsAreNamedBefore : Type 0
StructsAreNamedBefore =
    Binds (codes "struct S * p ; struct S { int m ; struct S * n ; } ; int f ( void ) { return p -> n -> m ; }")
    (bound 1 1 ∷ bound 3 3 ∷ bound 6 1 ∷ bound 9 9 ∷ bound 12 1 ∷ bound 14 14 ∷ bound 19 19 ∷ bound 25 3 ∷ bound 27 14 ∷ bound 29 9 ∷ [])

-- an earlier parameter is visible in the brackets of a later one, and behind the declarator neither is
abbrev pub EarlierParametersAreVisible : Type 0
EarlierParametersAreVisible =
    Binds (codes "int f ( int n , int a [ n ] ) ; int x = n ;") (bound 1 1 ∷ bound 4 4 ∷ bound 7 7 ∷ bound 9 4 ∷ bound 14 14 ∷ unbound 16 ∷ [])

-- a name is visible in its own initialiser, and not in its own brackets
abbrev pub InitialisersSeeTheirName : Type 0
InitialisersSeeTheirName =
    Binds (codes "int x ; int f ( void ) { int x = x ; int x [ x ] ; }")
    (bound 1 1 ∷ bound 4 4 ∷ bound 10 10 ∷ bound 12 10 ∷ bound 15 15 ∷ bound 17 10 ∷ [])

-- what a `for` declares is visible in the `for`, and not behind it
abbrev pub ForIsABlock : Type 0
ForIsABlock =
    Binds (codes "int f ( void ) { for ( int i = 0 ; i < 3 ; i ++ ) i ; i ; }")
    (bound 1 1 ∷ bound 9 9 ∷ bound 13 9 ∷ bound 17 9 ∷ bound 20 9 ∷ unbound 22 ∷ [])

-- ---- which names of file scope expressions use

abbrev pub used_in : Option PlainTree → List ℕ
used_in None = []
used_in (Some tree) = map (λ o. o.number) (filter (λ o. o.uses_file_name) (bindings_of tree))

abbrev pub Uses : List ℕ → List ℕ → Type 0
Uses text expected = used_in (read of_trees (tokens_of text)) ≡ expected

-- one that a block hides isn't used there; declarators, members and tags aren't uses, and what is undeclared is none
abbrev pub ExpressionsUseFileNames : Type 0
ExpressionsUseFileNames =
    Uses (codes "struct x { int m ; } ; int m ; int x ; int f ( struct x * p ) { int y = x ; { int x ; x = p -> m ; } return f ( p ) + z ; }")
    (26 ∷ 40 ∷ [])
