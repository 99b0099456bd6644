use Rattle.std.proofs.Common.{◌≡◌, ◌++◌, List, drop, map}
use Rattle.c_text.specs.Token.{PlainToken, plain_token}
use Rattle.c_tree.specs.Trees.{plain_trees, all_written}
use Rattle.c_tree.proofs.trees.+spell.Given as goal

abbrev pub invariant-spell_all_onto-loop-part : goal.invariant-spell_all_onto-loop-part
invariant-spell_all_onto-loop-part l =
    (behind : List PlainToken)
    → map plain_token l.tokens.items ++ all_written (plain_trees (drop l.part-index l.parts)) behind
    ≡ map plain_token l.initial.tokens.items ++ all_written (plain_trees l.parts) behind
