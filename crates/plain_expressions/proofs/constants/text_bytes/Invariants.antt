use Rattle.std.proofs.Common.{◌≡◌, drop}
use Rattle.std.specs.Prelude.{Some}
use Rattle.c_tree.specs.Trees.{plain_trees}
use Rattle.core_meaning.specs.Expressions.{joined_bytes, text_bytes}
use Rattle.plain_expressions.proofs.constants.text_bytes.Given as goal

abbrev pub invariant-loop-part : goal.invariant-loop-part
invariant-loop-part l =
    joined_bytes (Some l.bytes.items) (text_bytes (plain_trees (drop l.part-index l.parts))) ≡ text_bytes (plain_trees l.parts)
