use Rattle.std.proofs.Common.{◌≡◌, [], ◌/◌, ◌%◌, ◌+◌, map, length}
use Rattle.c_text.specs.Token.{plain_token}
use Rattle.c_tree.specs.Trees.{plain_trees}
use Rattle.core_meaning.specs.Declarations.{parameters_from}
use Rattle.plain_scope.specs.Blocks.{without_block}
use Rattle.plain_scope.specs.PlainScope.{plain_scope, uses_of}
use Rattle.plain_parameters.specs.PlainParameters.{plain_parameter}
use Rattle.plain_parameters.specs.Parameters.{parameters_at}
use Rattle.plain_declarators.specs.Progress.{Continues}
use Rattle.plain_parameters.proofs.parameters.parameters_from.Given as goal

abbrev pub invariant-loop-number : goal.invariant-loop-number
invariant-loop-number l = record {
  all : l.number-end ≡ length l.list / 2 + length l.list % 2;
  so_many : length l.all.items ≡ l.number;
  outside : without_block (plain_scope l.scope) ≡ without_block (plain_scope l.initial.scope);
  so_far : Continues
      (parameters_from l.defining (plain_scope l.initial.scope) [] (plain_trees l.list) (plain_token l.behind))
      (parameters_at l.defining (plain_scope l.scope) (map plain_parameter l.all.items) l.number l.list (plain_token l.behind))
      (λ found. found)
      (uses_of l.initial.used)
      (uses_of l.used);
}
