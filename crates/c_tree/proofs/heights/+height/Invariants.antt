use Rattle.std.proofs.Common.{◌≡◌, ◌≤◌, min, max, drop}
use Rattle.c_tree.specs.Trees.{plain_trees}
use Rattle.c_tree.specs.Heights.{highest_of}
use Rattle.c_tree.proofs.heights.+height.Given as goal

abbrev pub invariant-highest-loop-part : goal.invariant-highest-loop-part
invariant-highest-loop-part l =
    (l.highest ≤ 4294967295)
    × (min (max l.highest (highest_of (plain_trees (drop l.part-index l.parts)))) 4294967295
    ≡ min (highest_of (plain_trees l.parts)) 4294967295)
