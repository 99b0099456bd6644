use Rattle.std.proofs.Common.{ap, ◌∙◌}
use Rattle.core_meaning.specs.Values as plain
use Rattle.core_cells.specs.declared.values.Value.TheVariants as value
use Rattle.core_cells.specs.Forms.{plain_path, plain_steps, plain_cells, plain_value, inner_cells}
use Rattle.core_cells.specs.CellForms.{placed, cells_at}
use Rattle.core_memory.proofs.InitialLemmas.{copied_along}
use Rattle.core_memory.proofs.initial.with_part.Goals as goal

pub returns : goal.returns
returns c =
    let steps = plain_steps c.in_ok-path.path.items in
    let held = plain_cells c.args.held.now in
    copied_along c.args.numbers.now steps held (plain_value (value.Whole c.in_ok-part.part)) (inner_cells c.args.cells) (inner_cells c.in_ok-new.new) c.in_ok-path.ensures
    (c.in_ok-part.ensures ∙ ap (λ items. plain.whole (cells_at held (plain_path items))) c.deref.ensures.value)
    (c.in_ok-new.ensures ∙ ap (λ items. placed (plain_steps items) (plain_value (value.Whole c.in_ok-part.part)) (inner_cells c.args.cells)) c.deref-2.ensures.value)
