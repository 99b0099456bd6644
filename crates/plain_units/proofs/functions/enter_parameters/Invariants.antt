use Rattle.std.proofs.Common.{◌≡◌, length, map, drop}
use Rattle.core_meaning.specs.UnitNames.{with_parameters}
use Rattle.plain_scope.specs.Blocks.{without_block}
use Rattle.plain_scope.specs.PlainScope.{plain_scope}
use Rattle.plain_parameters.specs.PlainParameters.{plain_parameter}
use Rattle.plain_units.proofs.functions.enter_parameters.Given as goal

abbrev pub invariant-loop-i : goal.invariant-loop-i
invariant-loop-i l = record {
  all : l.i-end ≡ length l.parameters;
  placed : with_parameters (plain_scope l.scope) l.i (map plain_parameter (drop l.i l.parameters)) ≡ with_parameters (plain_scope l.initial.scope) 0 (map plain_parameter l.parameters);
  outside : without_block (plain_scope l.scope) ≡ without_block (plain_scope l.initial.scope);
}
