use Rattle.std.proofs.Common.{take}
use Rattle.std.specs.List.{AllZip}
use Rattle.cond_types.specs.Leaving.{IsLeftAs}
use Rattle.cond_types.proofs.left_names.left_entries.Given as goal

abbrev pub invariant-loop-n : goal.invariant-loop-n
invariant-loop-n l = AllZip (IsLeftAs l.earlier) (take l.n-index l.declared) l.left.items
