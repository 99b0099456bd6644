use Rattle.std.proofs.Common.{◌≡◌, ◌++◌, map, take}
use Rattle.core_meaning.specs.Run.{memory_of}
use Rattle.core_memory.specs.MemoryForms.{plain_memory, structs_of}
use Rattle.run_start.specs.Starts.{global_objects, text_object}
use Rattle.run_start.proofs.texts.add_texts.Given as goal

abbrev pub invariant-loop-number : goal.invariant-loop-number
invariant-loop-number l = record {
  added : plain_memory l.memory ≡ memory_of (global_objects l.program ++ map text_object (take l.number l.program.literals.items));
  structs : structs_of l.memory ≡ structs_of l.fn.memory;
}
