use Rattle.std.proofs.Common.{◌≡◌, ◌+◌, ◌≤◌, min, drop}
use Rattle.c_tree.specs.Trees.{plain_trees}
use Rattle.c_tree.specs.Heights.{count_stars}
use Rattle.c_tree.proofs.heights.star_count.Given as goal

abbrev pub invariant-loop-part : goal.invariant-loop-part
invariant-loop-part l =
    (l.count ≤ 4294967295)
    × (min (l.count + count_stars (plain_trees (drop l.part-index l.parts))) 4294967295
    ≡ min (count_stars (plain_trees l.parts)) 4294967295)
