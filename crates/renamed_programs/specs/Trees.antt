-- Trees that differ only in the names of identifiers (ISO/IEC 9899:2011, 6.4.2).
use Rattle.std.specs.Prelude.{◌≡◌}
use Rattle.c_text.specs.Token.{PlainToken}
use Rattle.c_text.specs.declared.token.TokenKind.TheVariants.{Name}
use Rattle.c_tree.specs.declared.kinds.Kind.{Kind}
use Rattle.c_tree.specs.Trees.{PlainTree, PlainTrees, leaf, node, none, more}

-- tokens of one kind and, if they are no identifiers, of one text; where they stand doesn't matter
pub record SameButName (a b : PlainToken) : Type 0 where
  pub kind : a.kind ≡ b.kind
  pub text : (a.kind ≡ Name → ⊥) → a.text ≡ b.text

-- trees of one shape with such tokens
mutual
  pub data SameButNames : PlainTree → PlainTree → Type 0 where
    same_leaf : {a b : PlainToken} → SameButName a b → SameButNames (leaf a) (leaf b)
    same_node : {kind : Kind} {parts others : PlainTrees} → AllSameButNames parts others → SameButNames (node kind parts) (node kind others)

  pub data AllSameButNames : PlainTrees → PlainTrees → Type 0 where
    same_end : AllSameButNames none none
    same_more :
        {tree other : PlainTree} {rest others : PlainTrees} → SameButNames tree other → AllSameButNames rest others
        → AllSameButNames (more tree rest) (more other others)
