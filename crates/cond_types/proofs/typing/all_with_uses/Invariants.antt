use Rattle.cond_types.specs.Uses.{HaveUses}
use Rattle.cond_types.proofs.typing.all_with_uses.Given as goal

abbrev pub invariant-loop-unit : goal.invariant-loop-unit
invariant-loop-unit l = HaveUses l.bound 0 l.yielded l.left.items
