use Rattle.std.proofs.Common.{◌≡◌, take}
use Rattle.core_cells.specs.Forms.{plain_cells}
use Rattle.core_memory.specs.InitialForms.{bytes_in}
use Rattle.run_start.proofs.texts.text_cells.Given as goal

abbrev pub invariant-loop-index : goal.invariant-loop-index
invariant-loop-index l = plain_cells l.cells ≡ bytes_in (take l.index l.text)
