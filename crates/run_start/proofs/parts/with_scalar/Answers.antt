use Rattle.std.proofs.Common.{ap, ◌∙◌}
use Rattle.core_meaning.specs.Values as plain
use Rattle.core_cells.specs.Forms.{plain_steps, plain_scalar, inner_cells}
use Rattle.core_cells.specs.CellForms.{placed}
use Rattle.core_memory.proofs.InitialLemmas.{scalar_along}
use Rattle.run_start.proofs.parts.with_scalar.Goals as goal

pub returns : goal.returns
returns c =
    let v = plain_scalar c.args.scalar in
    scalar_along c.args.numbers.now (plain_steps c.in_ok-path.path.items) v (inner_cells c.args.cells) (inner_cells c.in_ok-new.new) c.in_ok-path.ensures
    (c.in_ok-new.ensures ∙ ap (λ items. placed (plain_steps items) (plain.scalar v) (inner_cells c.args.cells)) c.deref.ensures.value)
