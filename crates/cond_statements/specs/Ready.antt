-- That the expressions and declarations among the parts of statements are derived from the grammar, and stand where they may (ISO/IEC 9899:2011, 6.8).
use Rattle.std.specs.Prelude.{ℕ, Bool, true, false, ⊤, IsTrue}
use Rattle.c_tree.specs.declared.kinds.Kind.{Kind}
use Rattle.c_tree.specs.declared.kinds.Kind.TheVariants as k
use Rattle.c_tree.specs.Trees.{PlainTree, PlainTrees, leaf, node, none, more}
use Rattle.c_tree.specs.Grammar.{Category, expression}
use Rattle.tree_derivations.specs.Derivations.{Derivation}

-- whether a declaration may be next among the parts: anywhere in a list, in a `for` as the first node
abbrev pub may_declare : Kind → Bool → Bool
may_declare k.Items first = true
may_declare k.For first = first
may_declare kind first = false

abbrev pub has_items : Kind → Bool
has_items k.Block = true
has_items kind = false

pub record IsDerived (tree : PlainTree) : Type 0 where
  pub category : Category
  pub derivation : Derivation category tree

pub record IsExpression (tree : PlainTree) : Type 0 where
  pub level : ℕ
  pub derivation : Derivation (expression level) tree

-- a node among the parts of another, given whether it is the first node, where it has these parts and this is said of them
abbrev pub NodeReady : Kind → Bool → Kind → PlainTrees → Type 0 → Type 0
NodeReady around first k.Absent parts Inner = ⊤
NodeReady around first k.Jump parts Inner = ⊤
NodeReady around first k.LocalDeclaration parts Inner = IsTrue (may_declare around first) × IsDerived (node k.LocalDeclaration parts)
NodeReady around first k.Items parts Inner = IsTrue (has_items around) × Inner
NodeReady around first k.Block parts Inner = Inner
NodeReady around first k.For parts Inner = Inner
NodeReady around first k.ExpressionStatement parts Inner = Inner
NodeReady around first k.If parts Inner = Inner
NodeReady around first k.Else parts Inner = Inner
NodeReady around first k.While parts Inner = Inner
NodeReady around first k.Do parts Inner = Inner
NodeReady around first k.ForStart parts Inner = Inner
NodeReady around first k.Return parts Inner = Inner
NodeReady around first kind parts Inner = IsExpression (node kind parts)

-- the parts of a node of this kind
abbrev pub Ready : Kind → Bool → PlainTrees → Type 0
Ready kind first none = ⊤
Ready kind first (more (leaf token) rest) = Ready kind first rest
Ready kind first (more (node inner parts) rest) = NodeReady kind first inner parts (Ready inner true parts) × Ready kind false rest
