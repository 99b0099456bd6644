use Rattle.std.proofs.Common.{◌≡◌, ◌<◌, refl, arith, Some, length, slice_get, get_or, vec_len}
use Rattle.std.proofs.lemmas.Option.{slice_get_read}
use Rattle.core_cells.specs.Forms.{plain_steps, plain_value}
use Rattle.core_cells.specs.CellForms.{placed}
use Rattle.core_cells.proofs.CellLemmas.{part_changed, set_again}
use Rattle.core_cells.proofs.cells.Cells.+writing.Goals as goal

pub part_written-returns : goal.part_written-returns
part_written-returns t c =
    let reached = c.reach.new.parts.items in
    let k = c.args.number in
    let old = c.replace-part.result in
    let long : k < vec_len c.reach.new.parts = c.in_ok-reach.ensures.there in
    let within : k < length reached = omega (arith, c.reach.new.parts.ok.0) in
    let same : old ≡ get_or reached k old = cc (c.replace-part.ensures.value, c.index_mut.ensures.value) in
    let there : slice_get reached k ≡ Some old = slice_get_read reached (length reached) k old refl within same in
    part_changed c.args.self reached _ k old c.in_ok-parts.field-0 (placed (plain_steps c.args.inner.now) (plain_value c.args.value))
    (c.in_ok-reach.ensures.same _) within there refl (set_again reached k c.replace-part.new.dest c.in_ok-parts.field-0) refl c.in_ok-parts.ensures
