use Rattle.std.proofs.Common.{◌≡◌, ◌≤◌, length, reverse, take}
use Rattle.core_meaning.specs.Memory.{with_all_ended}
use Rattle.core_memory.specs.MemoryForms.{plain_memory, structs_of}
use Rattle.run_machine.proofs.objects.end_all.Given as goal

abbrev pub invariant-loop-left : goal.invariant-loop-left
invariant-loop-left l = record {
  within : l.left ≤ length l.objects;
  ended : with_all_ended (plain_memory l.memory) (reverse (take l.left l.objects)) ≡ with_all_ended (plain_memory l.fn.memory) (reverse l.objects);
  structs : structs_of l.memory ≡ structs_of l.fn.memory;
}

abbrev pub decreases-loop-left : goal.decreases-loop-left
decreases-loop-left l = l.left
