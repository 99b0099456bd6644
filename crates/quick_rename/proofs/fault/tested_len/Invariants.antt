use Rattle.std.proofs.Common.{ℕ, map, take, Vec, Global}
use Rattle.quick_rename.specs.Fronts.{begins_name, IsFrontLength}
use Rattle.quick_rename.proofs.fault.tested_len.Given as goal

abbrev pub invariant-loop-name : goal.invariant-loop-name
invariant-loop-name l = IsFrontLength (begins_name (map (λ (v : Vec ℕ Global). v.items) (take l.name-index l.name-items))) l.word l.longest
