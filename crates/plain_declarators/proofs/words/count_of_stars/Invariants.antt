use Rattle.std.proofs.Common.{◌≡◌, ◌≤◌, ◌+◌, drop}
use Rattle.c_tree.specs.Heights.{count_stars}
use Rattle.c_tree.specs.Trees.{plain_trees}
use Rattle.plain_declarators.proofs.words.count_of_stars.Given as goal

abbrev pub invariant-loop-part : goal.invariant-loop-part
invariant-loop-part l = record {
  bound : l.count ≤ l.part-index;
  counted : l.count + count_stars (plain_trees (drop l.part-index l.parts)) ≡ count_stars (plain_trees l.parts);
}
