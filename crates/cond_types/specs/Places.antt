-- What stands at a place among trees.
use Rattle.std.specs.Prelude.{◌≡◌, ◌⊎◌, ℕ, zero, suc, Bool, true, false, Option, Some, None}
use Rattle.c_tree.specs.declared.kinds.Kind.{Kind}
use Rattle.c_tree.specs.declared.kinds.Kind.TheVariants as k
use Rattle.c_tree.specs.Trees.{PlainTree, PlainTrees, node, none, more}
use Rattle.choice_trees.specs.ChoiceTrees.{no_statement}

-- the tree with this number, from 0 on
abbrev pub tree_at : ℕ → PlainTrees → Option PlainTree
tree_at n none = None
tree_at zero (more tree rest) = Some tree
tree_at (suc n) (more tree rest) = tree_at n rest

-- nothing stands there, or the `;` of a statement that isn't there
abbrev pub IsEmpty : Option PlainTree → Type 0
IsEmpty found = (found ≡ None) ⊎ (found ≡ Some no_statement)

-- no node of this kind stands there, but the `;` of a statement that isn't there
abbrev pub IsNone : Kind → Option PlainTree → Type 0
IsNone kind found = (parts : PlainTrees) → found ≡ Some (node kind parts) → node kind parts ≡ no_statement

-- the kinds of lists
abbrev pub is_members : Kind → Bool
is_members k.Members = true
is_members kind = false

abbrev pub is_declarators : Kind → Bool
is_declarators k.Declarators = true
is_declarators kind = false
