-- What the grammar says of definitions of structs: their words name one.
use Rattle.std.proofs.Common.{◌≡◌, true}
use Rattle.c_tree.specs.declared.kinds.Kind.{Kind}
use Rattle.c_tree.specs.declared.kinds.Kind.TheVariants as k
use Rattle.c_tree.specs.declared.terminals.Terminal.TheVariants as t
use Rattle.c_tree.specs.Trees.{PlainTree, PlainTrees, leaf, node, none, more}
use Rattle.c_tree.specs.Grammar.{file_item, tag}
use Rattle.core_meaning.specs.Expressions.{has_terminal}
use Rattle.tree_derivations.specs.Derivations.{Derivation, single, made_of, a_row, a_part, some_words, Each, no_more, one_more}
use Rattle.bindings.proofs.Words.{tag_form}

abbrev pub IsTaggedItem : PlainTree → Type 0
IsTaggedItem (node k.StructDefinition (more (node tag_kind words) rest)) = has_terminal t.Struct words ≡ true
IsTaggedItem other = Unit {0}

abbrev pub AreTaggedItems : PlainTrees → Type 0
AreTaggedItems none = Unit {0}
AreTaggedItems (more tree rest) = IsTaggedItem tree × AreTaggedItems rest

tag_has : {kind : Kind} {words : PlainTrees} → Derivation tag (node kind words) → has_terminal t.Struct words ≡ true
tag_has (made_of k.Specifiers {parts = parts} b a (some_words are)) = (tag_form parts are).has
tag_has (made_of _ b a s) = absurd cc

item_tagged : {tree : PlainTree} → Derivation file_item tree → IsTaggedItem tree
item_tagged (single is) = absurd cc
item_tagged (made_of k.StructDefinition b a (a_row (a_part {tree = node kind words} w row))) = tag_has w
item_tagged (made_of k.StructDefinition b a (a_row (a_part {tree = leaf token} w row))) = tt
item_tagged (made_of _ b a s) = tt

pub items_tagged : {parts : PlainTrees} → Each file_item parts → AreTaggedItems parts
items_tagged no_more = tt
items_tagged (one_more d each) = (item_tagged d, items_tagged each)
