-- The declarators of a declaration, read by the kinds of what stands in their list (ISO/IEC 9899:2011, 6.7).
use Rattle.std.specs.Prelude.{◌≡◌, Bool, true, false, List, [], ◌∷◌, Option, None, if◌then◌else◌}
use Rattle.conditional.specs.Entries.{first}
use Rattle.choice_expansions.specs.Steps.{after_each}
use Rattle.c_tree.specs.declared.kinds.Kind.{Kind}
use Rattle.c_tree.specs.declared.kinds.Kind.TheVariants.{Declarator, ArrayDeclarator, FunctionDeclarator}
use Rattle.c_tree.specs.declared.terminals.Terminal.TheVariants.{Assign}
use Rattle.c_tree.specs.Trees.{PlainTree, PlainTrees, leaf, node, none, more}
use Rattle.c_tree.specs.Terminals.{terminal, same}

-- a declarator, and its initialiser if it has one
pub record Declared : Type 0 where
  pub declarator : PlainTree
  pub initialiser : Option PlainTree

abbrev pub is_declarator_kind : Kind → Bool
is_declarator_kind Declarator = true
is_declarator_kind ArrayDeclarator = true
is_declarator_kind FunctionDeclarator = true
is_declarator_kind kind = false

abbrev pub is_declarator : PlainTree → Bool
is_declarator (leaf token) = false
is_declarator (node kind parts) = is_declarator_kind kind

abbrev pub is_assign : PlainTree → Bool
is_assign (leaf token) = same Assign (terminal token)
is_assign (node kind parts) = false

-- the initialiser of a declarator, by what stands behind it
abbrev pub initialiser_in : List PlainTree → Option PlainTree
initialiser_in [] = None
initialiser_in (sign ∷ rest) = if is_assign sign then first rest else None

abbrev pub declared : PlainTree → Option PlainTree → Declared
declared tree initialiser = record { declarator = tree; initialiser = initialiser }

abbrev pub declared_in : List PlainTree → List Declared
declared_in [] = []
declared_in (tree ∷ rest) =
    if is_declarator tree then declared tree (initialiser_in rest) ∷ declared_in rest else declared_in rest

abbrev pub trees_of : PlainTrees → List PlainTree
trees_of none = []
trees_of (more tree rest) = tree ∷ trees_of rest

-- how a state goes on by a declarator with this initialiser
abbrev pub with_initialiser : {M : Type 0} → (M → Declared → M) → PlainTree → M → Option PlainTree → M
with_initialiser next declarator m initialiser = next m (record { declarator = declarator; initialiser = initialiser })

-- a state of which the rest of a list makes what the whole list makes of the one before
pub record Steps {M : Type 0} (Means : M → Type 0) (next : M → Declared → M) (before : M) (whole rest : List PlainTree) : Type 0 where
  pub now : M
  pub means : Means now
  pub rest_is : after_each next now (declared_in rest) ≡ after_each next before (declared_in whole)
