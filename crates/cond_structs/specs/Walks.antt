-- How the members of a struct are declared declaration by declaration, so that a reader of all configurations at once, in which a declaration may be
-- there or not, goes on in the same way (ISO/IEC 9899:2011, 6.7.2.1).
use Rattle.std.specs.Prelude.{ℕ, List, [], ◌∷◌, ◌++◌, true, Option, None, ⊤}
use Rattle.c_text.specs.Token.{PlainToken}
use Rattle.c_types.specs.Types.{PlainType}
use Rattle.c_tree.specs.Trees.{PlainTree, PlainTrees, leaf, node, none, more}
use Rattle.c_tree.specs.Grammar.{member_of, declarators}
use Rattle.tree_derivations.specs.Derivations.{Derivation}
use Rattle.core_meaning.specs.Checking.{Checked, broken, ◌>>=◌, give}
use Rattle.core_meaning.specs.Entities.{Scope}
use Rattle.core_meaning.specs.Declarations.{name_in}
use Rattle.core_meaning.specs.UnitNames.{Members, members_from, AllMembers}
use Rattle.declaration_readings.specs.Readings.{Going, after}
use Rattle.cond_declarators.specs.Types.{based_in}

-- the name of a declarator
abbrev pub declared_name : PlainTree → Option PlainToken
declared_name (node kind parts) = name_in parts
declared_name (leaf token) = None

-- the words and the declarators of a declaration
pub record MemberParts : Type 0 where
  pub words : PlainTree
  pub list : PlainTree

abbrev pub declaration_in : PlainTrees → List MemberParts
declaration_in (more words (more list (more end none))) = record { words = words; list = list } ∷ []
declaration_in other = []

abbrev pub parts_in : PlainTree → List MemberParts
parts_in (node kind parts) = declaration_in parts
parts_in (leaf token) = []

abbrev pub declarations_in : List PlainTree → List MemberParts
declarations_in [] = []
declarations_in (tree ∷ rest) = parts_in tree ++ declarations_in rest

abbrev pub members_in : Scope → ℕ → Members → PlainType → PlainTree → Checked Members
members_in scope number known ty (node kind list) = members_from scope number known ty list
members_in scope number known ty (leaf token) = broken

-- the members of one declaration more, whose words may declare a struct
abbrev pub next_declaration : ℕ → AllMembers → MemberParts → Checked AllMembers
next_declaration number s d = do
  base ← based_in true s.scope d.words
  known ← members_in base.scope number s.known base.ty d.list
  give (record { scope = base.scope; known = known })

abbrev pub declared_next : ℕ → Going AllMembers → MemberParts → Going AllMembers
declared_next number k d = after k (next_declaration number k.state d)

-- the declarators of each declaration are those of the grammar
abbrev pub AreDerived : List MemberParts → Type 0
AreDerived [] = ⊤
AreDerived (d ∷ rest) = Derivation (declarators member_of) d.list × AreDerived rest
