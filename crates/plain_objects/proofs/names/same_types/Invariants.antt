use Rattle.std.proofs.Common.{◌≡◌, length, map, drop}
use Rattle.c_types.specs.Types.{plain_type}
use Rattle.core_meaning.specs.UnitNames.{same_types}
use Rattle.plain_objects.proofs.names.same_types.Given as goal

abbrev pub invariant-loop-i : goal.invariant-loop-i
invariant-loop-i l = record {
  all : l.i-end ≡ length l.a;
  long : length l.a ≡ length l.b;
  left : same_types (map plain_type l.a) (map plain_type l.b) ≡ same_types (map plain_type (drop l.i l.a)) (map plain_type (drop l.i l.b));
}
