use Rattle.std.proofs.Common.{ap}
use Rattle.core_meaning.specs.Values.{Cells}
use Rattle.core_memory.specs.MemoryForms.{plain_object}
use Rattle.core_memory.proofs.memory.Object.fill.Goals as goal

pub returns : goal.returns
returns c =
    let object = plain_object c.args.self.now in
    ap (λ (cells : Cells). record object { cells = cells }) c.in_ok-cells.ensures
