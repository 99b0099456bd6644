-- A tree differs from itself in nothing; sizes that differ only in names bind things of one kind.
use Rattle.std.proofs.Common.{refl}
use Rattle.std.specs.Prelude.{None, if◌then◌else◌}
use Rattle.c_text.specs.Token.{PlainToken}
use Rattle.c_types.specs.Integers.{is_integer}
use Rattle.c_tree.specs.Trees.{PlainTree, PlainTrees, leaf, node, none, more}
use Rattle.core_meaning.specs.declared.refusals.TypeKind.TheVariants.{BadConstant}
use Rattle.core_meaning.specs.Entities.{Scope}
use Rattle.core_meaning.specs.Expressions.{valued, first_token}
use Rattle.core_meaning.specs.Constancy.{judged_count, count_of_value, value_if_constant}
use Rattle.renamed_programs.specs.Trees.{SameButNames, AllSameButNames, same_leaf, same_node, same_end, same_more}
use Rattle.entity_numbers.specs.Kinds.{Ties}
use Rattle.entity_kinds.proofs.Pairs.{Anything, Alike, any_then, alike_quiet, found_quiet}
use Rattle.entity_kinds.proofs.Expressions.{valued_alike}

-- ---- a tree differs from itself in nothing

mutual
  pub itself : (tree : PlainTree) → SameButNames tree tree
  itself (leaf token) = same_leaf (record { kind = refl; text = λ no_name. refl })
  itself (node kind parts) = same_node (all_themselves parts)

  all_themselves : (parts : PlainTrees) → AllSameButNames parts parts
  all_themselves none = same_end
  all_themselves (more tree rest) = same_more (itself tree) (all_themselves rest)

-- ---- sizes

pub counts_alike : (s u : Scope) {tree other : PlainTree} (ties : Ties) (a b : PlainToken) → SameButNames tree other → Alike ties Anything (judged_count s tree a) (judged_count u other b)
counts_alike s u {tree = tree} {other = other} ties a b e =
    any_then Anything ties (valued s tree) (valued u other) _ _ (valued_alike s u ties e)
    (λ more_ grows x y. alike_quiet more_ _ _ (found_quiet (if is_integer x.ty then count_of_value (value_if_constant x.core) else None) BadConstant (first_token tree a))
    (found_quiet (if is_integer y.ty then count_of_value (value_if_constant y.core) else None) BadConstant (first_token other b)))
