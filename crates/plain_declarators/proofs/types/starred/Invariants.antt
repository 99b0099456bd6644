use Rattle.std.proofs.Common.{◌≡◌}
use Rattle.c_types.specs.Types.{plain_type}
use Rattle.c_tree.specs.Trees.{plain_trees}
use Rattle.c_tree.specs.Heights.{count_stars}
use Rattle.core_meaning.specs.Declarations.{pointers}
use Rattle.plain_declarators.proofs.types.starred.Given as goal

abbrev pub invariant-loop : goal.invariant-loop
invariant-loop l = record {
  all : l.end ≡ count_stars (plain_trees l.parts);
  pointing : plain_type l.ty ≡ pointers l.counter (plain_type l.base);
}
