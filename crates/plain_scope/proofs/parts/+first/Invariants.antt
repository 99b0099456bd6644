use Rattle.std.proofs.Common.{◌≡◌, drop}
use Rattle.c_text.specs.Token.{PlainToken}
use Rattle.c_tree.specs.Trees.{plain_trees}
use Rattle.core_meaning.specs.Expressions.{first_token_in}
use Rattle.plain_scope.proofs.parts.+first.Given as goal

abbrev pub invariant-first_in-loop-part : goal.invariant-first_in-loop-part
invariant-first_in-loop-part l =
    (behind : PlainToken) → first_token_in (plain_trees (drop l.part-index l.parts)) behind ≡ first_token_in (plain_trees l.parts) behind
