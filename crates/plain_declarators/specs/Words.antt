-- Parts that are left out.
use Rattle.std.proofs.Common.{◌≡◌, ℕ, suc, zero, drop, ◌+◌, ◌/◌, ◌%◌, Bool, true, false, ◌&&◌, List, [], ◌∷◌, length, refl, arith}
use Rattle.core_meaning.specs.Expressions.{count_entries}
use Rattle.c_tree.specs.declared.kinds.Kind.{Kind}
use Rattle.c_tree.specs.declared.kinds.Kind.TheVariants as k
use Rattle.c_tree.specs.Trees.{PlainTree, PlainTrees, leaf, node, none, more, plain_trees}
use Rattle.c_tree.specs.declared.trees.Tree.{Tree}
use Rattle.c_tree.specs.Grammar.{is_absent}

abbrev pub is_absence : Kind → Bool
is_absence k.Absent = true
is_absence other = false

pub is_there : (kind : Kind) → (kind ≡ k.Absent → ⊥) → false ≡ is_absence kind
is_there k.Absent other = absurd (other refl)
is_there kind other = refl

-- what stands for a part that is left out, whatever is in it
abbrev pub is_gone : PlainTree → Bool
is_gone (leaf token) = false
is_gone (node kind parts) = is_absence kind

abbrev pub is_nothing : PlainTrees → Bool
is_nothing none = true
is_nothing (more first rest) = false

nothing_absent : (parts : PlainTrees) → is_absent (node k.Absent parts) ≡ is_nothing parts
nothing_absent none = refl
nothing_absent (more first rest) = refl

pub absent_by_kind : (kind : Kind) (parts : PlainTrees) → is_absent (node kind parts) ≡ (is_absence kind && is_nothing parts)
absent_by_kind k.Absent parts = nothing_absent parts
absent_by_kind other parts = refl

-- entries with a comma between each two
pub entries_by_length : (parts : List Tree) → length parts / 2 + length parts % 2 ≡ count_entries (plain_trees parts)
entries_by_length [] = refl
entries_by_length (tree ∷ []) = refl
entries_by_length (tree ∷ comma ∷ rest) = let deeper = entries_by_length rest in omega (arith, deeper)

-- what stands behind the comma
abbrev pub behind_comma : PlainTrees → PlainTrees
behind_comma none = none
behind_comma (more comma rest) = rest

pub next_behind : (m : ℕ) (parts : List Tree) → behind_comma (plain_trees (drop m parts)) ≡ plain_trees (drop (suc m) parts)
next_behind zero [] = refl
next_behind zero (x ∷ parts) = refl
next_behind (suc m) [] = refl
next_behind (suc m) (x ∷ parts) = next_behind m parts
