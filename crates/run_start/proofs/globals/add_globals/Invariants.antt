use Rattle.std.proofs.Common.{◌≡◌, ◌++◌, [], map, take}
use Rattle.core_meaning.specs.Run.{memory_of}
use Rattle.core_memory.specs.MemoryForms.{plain_memory, structs_of}
use Rattle.run_start.specs.Starts.{global_object}
use Rattle.run_start.proofs.globals.add_globals.Given as goal

abbrev pub invariant-loop-global : goal.invariant-loop-global
invariant-loop-global l = record {
  added : plain_memory l.memory ≡ memory_of ([] ++ map (global_object l.program) (take l.global-index l.program.globals.items));
  structs : structs_of l.memory ≡ structs_of l.fn.memory;
}
