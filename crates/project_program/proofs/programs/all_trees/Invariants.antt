use Rattle.std.proofs.Common.{map, take}
use Rattle.std.specs.List.{AllZip}
use Rattle.c_tree.specs.Trees.{plain_tree}
use Rattle.c_tree.specs.Units.{IsTreeOf}
use Rattle.project_program.specs.Steps.{plain_tokens}
use Rattle.project_program.proofs.programs.all_trees.Given as goal

abbrev pub invariant-loop-tokens : goal.invariant-loop-tokens
invariant-loop-tokens l = AllZip IsTreeOf (plain_tokens (take l.tokens-index l.units)) (map plain_tree l.trees.items)
