use Rattle.std.proofs.Common.{◌≡◌}
use Rattle.c_types.specs.Types.{plain_type}
use Rattle.core_meaning.specs.Declarations.{pointers}
use Rattle.cond_units.proofs.parts.behind_stars.Given as goal

abbrev pub invariant-loop : goal.invariant-loop
invariant-loop l = (plain_type l.ty ≡ pointers l.counter (plain_type l.base))
