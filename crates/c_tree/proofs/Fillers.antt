-- A token for each terminal, and a tree for each place.
use Rattle.std.proofs.Common.{◌≡◌, ℕ, false, List, [], ◌∷◌, refl}
use Rattle.std.specs.Prelude.{IsTrue, codes}
use Rattle.c_text.specs.declared.origin.Place.TheVariants as origin
use Rattle.c_text.specs.declared.token.TokenKind.{TokenKind}
use Rattle.c_text.specs.declared.token.TokenKind.TheVariants as token_kind
use Rattle.c_text.specs.Token.{PlainToken}
use Rattle.c_tree.specs.declared.kinds.Kind.TheVariants as k
use Rattle.c_tree.specs.declared.terminals.Terminal.{Terminal}
use Rattle.c_tree.specs.declared.terminals.Terminal.TheVariants as t
use Rattle.c_tree.specs.Terminals.{terminal}
use Rattle.c_tree.specs.Trees.{PlainTree, leaf, node, none, more, absent, trees}
use Rattle.c_tree.specs.Grammar.{Category, expression, arguments, cast_type, specifiers, file_specifiers, tag, declarators, declarator, abstract_declarator, parameters, parameter, initialiser, initialisers, statement, else_part, block, items, item, for_start, members, member, file_item, file_first, is_named, may_be_defined, defines_function, is_a}

abbrev token_of : TokenKind → List ℕ → PlainToken
token_of kind text =
    record {
      kind = kind;
      text = text;
      joined = false;
      origin = record { file = 0; span = record { start = 0; end = 0 }; place = origin.Text; site = record { start = 0; end = 0 }; site_file = 0 };
    }

abbrev token_for : Terminal → PlainToken
token_for t.Name = token_of token_kind.Name (codes "x")
token_for t.Number = token_of token_kind.Number (codes "0")
token_for t.Character = token_of token_kind.Character (codes "'x'")
token_for t.Text = token_of token_kind.Text (codes "\"\"")
token_for t.OpenParenthesis = token_of token_kind.Punctuator (codes "(")
token_for t.CloseParenthesis = token_of token_kind.Punctuator (codes ")")
token_for t.OpenBracket = token_of token_kind.Punctuator (codes "[")
token_for t.CloseBracket = token_of token_kind.Punctuator (codes "]")
token_for t.OpenBrace = token_of token_kind.Punctuator (codes "{")
token_for t.CloseBrace = token_of token_kind.Punctuator (codes "}")
token_for t.Semicolon = token_of token_kind.Punctuator (codes ";")
token_for t.Comma = token_of token_kind.Punctuator (codes ",")
token_for t.Question = token_of token_kind.Punctuator (codes "?")
token_for t.Colon = token_of token_kind.Punctuator (codes ":")
token_for t.Select = token_of token_kind.Punctuator (codes ".")
token_for t.Step = token_of token_kind.Punctuator (codes "++")
token_for t.Ampersand = token_of token_kind.Punctuator (codes "&")
token_for t.Star = token_of token_kind.Punctuator (codes "*")
token_for t.Sign = token_of token_kind.Punctuator (codes "+")
token_for t.Negation = token_of token_kind.Punctuator (codes "~")
token_for t.Divide = token_of token_kind.Punctuator (codes "/")
token_for t.Shift = token_of token_kind.Punctuator (codes "<<")
token_for t.Relation = token_of token_kind.Punctuator (codes "<")
token_for t.Equality = token_of token_kind.Punctuator (codes "==")
token_for t.Caret = token_of token_kind.Punctuator (codes "^")
token_for t.Bar = token_of token_kind.Punctuator (codes "|")
token_for t.AndAnd = token_of token_kind.Punctuator (codes "&&")
token_for t.OrOr = token_of token_kind.Punctuator (codes "||")
token_for t.Assign = token_of token_kind.Punctuator (codes "=")
token_for t.CompoundAssign = token_of token_kind.Punctuator (codes "+=")
token_for t.Void = token_of token_kind.Keyword (codes "void")
token_for t.Char = token_of token_kind.Keyword (codes "char")
token_for t.Unsigned = token_of token_kind.Keyword (codes "unsigned")
token_for t.Int = token_of token_kind.Keyword (codes "int")
token_for t.Long = token_of token_kind.Keyword (codes "long")
token_for t.Struct = token_of token_kind.Keyword (codes "struct")
token_for t.Static = token_of token_kind.Keyword (codes "static")
token_for t.Extern = token_of token_kind.Keyword (codes "extern")
token_for t.Inline = token_of token_kind.Keyword (codes "inline")
token_for t.If = token_of token_kind.Keyword (codes "if")
token_for t.Else = token_of token_kind.Keyword (codes "else")
token_for t.While = token_of token_kind.Keyword (codes "while")
token_for t.Do = token_of token_kind.Keyword (codes "do")
token_for t.For = token_of token_kind.Keyword (codes "for")
token_for t.Jump = token_of token_kind.Keyword (codes "break")
token_for t.Return = token_of token_kind.Keyword (codes "return")
token_for t.Other = token_of token_kind.Punctuator []

-- a token for each terminal
pub record Token (kind : Terminal) : Type 0 where
  pub token : PlainToken
  pub is : terminal token ≡ kind

pub a_token : (kind : Terminal) → Token kind
a_token kind = record { token = token_for kind; is = each kind }
  where
    each : (kind : Terminal) → terminal (token_for kind) ≡ kind
    each t.Name = refl
    each _ = refl

-- ---- a tree for each category

pub record Filler (category : Category) : Type 0 where
  pub tree : PlainTree
  pub is : IsTrue (is_a category tree)

abbrev just : Terminal → PlainTree
just kind = leaf (token_for kind)

abbrev number_words : PlainTree
number_words = node k.Specifiers (trees (just t.Int ∷ []))

abbrev name_alone : PlainTree
name_alone = node k.Declarator (trees (just t.Name ∷ []))

abbrev names_alone : PlainTree
names_alone = node k.Declarators (trees (name_alone ∷ []))

abbrev lone_semicolon : PlainTree
lone_semicolon = node k.ExpressionStatement (trees (absent ∷ just t.Semicolon ∷ []))

abbrev one_member : PlainTree
one_member = node k.Member (trees (number_words ∷ names_alone ∷ just t.Semicolon ∷ []))

abbrev void_words : PlainTree
void_words = node k.Specifiers (trees (just t.Void ∷ []))

abbrev tag_words : PlainTree
tag_words = node k.Specifiers (trees (just t.Struct ∷ just t.Name ∷ []))

abbrev tree_for : Category → PlainTree
tree_for (expression wanted) = just t.Number
tree_for arguments = node k.Arguments (trees (just t.Number ∷ []))
tree_for cast_type = number_words
tree_for specifiers = number_words
tree_for file_specifiers = number_words
tree_for tag = tag_words
tree_for (declarators role) = names_alone
tree_for (declarator role) = name_alone
tree_for abstract_declarator = name_alone
tree_for parameters = node k.Parameters (trees (node k.Parameter (trees (void_words ∷ absent ∷ [])) ∷ []))
tree_for parameter = node k.Parameter (trees (number_words ∷ name_alone ∷ []))
tree_for initialiser = just t.Number
tree_for initialisers = node k.Initialisers (trees (just t.Number ∷ []))
tree_for statement = lone_semicolon
tree_for else_part = node k.Else (trees (just t.Else ∷ lone_semicolon ∷ []))
tree_for block = node k.Block (trees (just t.OpenBrace ∷ absent ∷ just t.CloseBrace ∷ []))
tree_for items = node k.Items (trees (lone_semicolon ∷ []))
tree_for item = lone_semicolon
tree_for for_start = node k.ForStart (trees (absent ∷ just t.Semicolon ∷ []))
tree_for members = node k.Members (trees (one_member ∷ []))
tree_for member = one_member
tree_for file_item = node k.StructDeclaration (trees (tag_words ∷ just t.Semicolon ∷ []))

pub a_filler : (category : Category) → Filler category
a_filler category = record { tree = tree_for category; is = each category }
  where
    each : (category : Category) → IsTrue (is_a category (tree_for category))
    each arguments = refl
    each _ = refl

-- ---- trees of which more is needed

-- parameters that a definition may have
pub record DefinableParameters : Type 0 where
  pub tree : PlainTree
  pub is : IsTrue (is_a parameters tree)
  pub definable : IsTrue (may_be_defined (more tree none))

pub definable_parameters : DefinableParameters
definable_parameters = record { tree = tree_for parameters; is = refl; definable = refl }

pub record NamedParameter : Type 0 where
  pub tree : PlainTree
  pub is : IsTrue (is_a parameter tree)
  pub named : IsTrue (is_named tree)

pub named_parameter : NamedParameter
named_parameter = record { tree = tree_for parameter; is = refl; named = refl }

-- the declarators of a definition
pub record FunctionDeclarators : Type 0 where
  pub tree : PlainTree
  pub is : IsTrue (is_a (declarators file_first) tree)
  pub defines : IsTrue (defines_function tree)

pub function_declarators : FunctionDeclarators
function_declarators =
    record {
      tree =
          node k.Declarators
          (trees (node k.FunctionDeclarator (trees (just t.Name ∷ just t.OpenParenthesis ∷ absent ∷ just t.CloseParenthesis ∷ [])) ∷ []));
      is = refl;
      defines = refl;
    }
