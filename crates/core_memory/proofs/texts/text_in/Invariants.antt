use Rattle.std.proofs.Common.{◌≡◌, ◌-◌}
use Rattle.core_meaning.specs.Meaning.{text_in}
use Rattle.core_cells.specs.Parts.{plain_stand}
use Rattle.core_memory.specs.MemoryForms.{plain_memory, structs_of}
use Rattle.core_memory.specs.TextForms.{text_onward}
use Rattle.core_memory.specs.OperationForms.{with_structs}
use Rattle.core_memory.proofs.texts.text_in.Given as goal

abbrev pub invariant-loop-index : goal.invariant-loop-index
invariant-loop-index l =
    text_onward (structs_of l.memory) (plain_memory l.memory) l.object (plain_stand l.stand) l.text.items (l.stand.count - l.index) l.index
    ≡ text_in (with_structs (structs_of l.memory)) (plain_memory l.memory) l.object (plain_stand l.stand)
