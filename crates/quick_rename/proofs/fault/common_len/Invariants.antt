use Rattle.std.proofs.Common.{◌≡◌, ◌≤◌, length, take}
use Rattle.quick_rename.proofs.fault.common_len.Given as goal

abbrev pub invariant-loop-i : goal.invariant-loop-i
invariant-loop-i l = record { inside : l.i ≤ length l.name; same : take l.i l.word ≡ take l.i l.name }
