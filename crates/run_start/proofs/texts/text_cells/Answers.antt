use Rattle.std.proofs.Common.{ap, ◌∙◌}
use Rattle.core_cells.specs.Forms.{plain_cells}
use Rattle.core_cells.specs.CellForms.{by_paths}
use Rattle.run_start.proofs.TextLemmas.{no_bytes_yet, byte_of_text, zero_of_text}
use Rattle.run_start.proofs.texts.text_cells.Goals as goal

pub loop-index-init : goal.loop-index-init
loop-index-init c = ap by_paths c.unwritten-cells.ensures ∙ no_bytes_yet

pub loop-index-preserved : goal.loop-index-preserved
loop-index-preserved c =
    c.in_ok-cells.ensures
    ∙ byte_of_text c.args.text.now c.loop-index.index (plain_cells c.loop-index.cells) c.loop-index-test.true c.loop-index.invariant

pub returns : goal.returns
returns c =
    c.in_ok-cells-2.ensures
    ∙ zero_of_text c.args.text.now c.loop-index.index (plain_cells c.loop-index.cells) c.loop-index-test.false c.loop-index.invariant
