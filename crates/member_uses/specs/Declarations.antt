-- The uses of members in declarations, declarator by declarator, so that a reader of all configurations at once, in which a declarator may be there
-- or not, notes them in the same way (ISO/IEC 9899:2011, 6.7). What is visible goes on as `declaration_readings` says.
use Rattle.std.specs.Prelude.{◌≡◌, ℕ, List, [], ◌∷◌, ◌++◌, Option, Some, None}
use Rattle.c_text.specs.Token.{PlainToken}
use Rattle.c_tree.specs.declared.kinds.Kind.TheVariants as k
use Rattle.c_tree.specs.Trees.{PlainTree, PlainTrees, leaf, node, none, more, spelled}
use Rattle.c_tree.specs.Grammar.{Role, declarator, initialiser}
use Rattle.tree_derivations.specs.Derivations.{Derivation}
use Rattle.core_meaning.specs.Checking.{Checked}
use Rattle.declarator_lists.specs.Lists.{Declared}
use Rattle.declaration_readings.specs.Readings.{Going, goes_on}
use Rattle.bindings.specs.Laws.{ArePieces}
use Rattle.expression_types.specs.Known.{Known}
use Rattle.selections.specs.Selections.{structures_selected}
use Rattle.member_uses.specs.Uses.{Use, names_in, using, structures_in}

-- the parts of a declaration: the words of its type, its declarators, and a semicolon
abbrev pub declaration : PlainTrees → PlainTrees → PlainToken → PlainTrees
declaration words list last = more (node k.Specifiers words) (more (node k.Declarators list) (more (leaf last) none))

-- a declarator, perhaps with an initialiser, of the grammar
pub record IsDeclarator (role : Role) (d : Declared) : Type 0 where
  pub declarator : Derivation (declarator role) d.declarator
  pub declarator_pieces : ArePieces (spelled d.declarator)
  pub initialiser : (tree : PlainTree) → d.initialiser ≡ Some tree → Derivation initialiser tree
  pub initialiser_pieces : (tree : PlainTree) → d.initialiser ≡ Some tree → ArePieces (spelled tree)

abbrev pub names_if : Option PlainTree → List PlainToken
names_if None = []
names_if (Some tree) = names_in tree

-- the identifiers of a declarator and of its initialiser
abbrev pub names_in_declared : Declared → List PlainToken
names_in_declared d = names_in d.declarator ++ names_if d.initialiser

-- where one declarator more is judged so
module _ {S : Type 0} (by : ℕ → ℕ) (one : S → Declared → Checked S) where
  abbrev pub uses_in_declared : S → Declared → List Use
  uses_in_declared s d = using (names_in_declared d) (structures_in by (one s d))

  -- one declarator after the other, each judged behind those before it
  abbrev pub uses_in_turn : Going S → List Declared → List Use
  uses_in_turn g [] = []
  uses_in_turn g (d ∷ rest) = uses_in_declared g.state d ++ uses_in_turn (goes_on one g d) rest

-- those of an initialiser, if there is one, where this is known
abbrev pub uses_initially : Known → Option PlainTree → List Use
uses_initially known None = []
uses_initially known (Some tree) = using (names_in tree) (structures_selected known tree)
