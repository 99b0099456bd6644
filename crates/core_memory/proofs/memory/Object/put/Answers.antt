use Rattle.std.proofs.Common.{ap, sym, refl, ◌∙◌, Some}
use Rattle.core_cells.specs.Forms.{plain_path, plain_steps, plain_scalar, plain_cells, plain_value, inner_cells}
use Rattle.core_memory.specs.MemoryForms.{plain_object, with_written}
use Rattle.core_memory.proofs.MemoryLemmas.{scalar_put, whole_put}
use Rattle.core_memory.proofs.memory.Object.put.Goals as goal

pub returns-in_ok-replace-in-Scalar : goal.returns-in_ok-replace-in-Scalar
returns-in_ok-replace-in-Scalar c =
    let object = plain_object c.args.self.now in
    ap (λ v. with_written object (plain_path c.args.path.now) (plain_value v)) c.in-Scalar.is
    ∙ scalar_put object (plain_steps c.args.path.now) (plain_scalar c.in-Scalar.scalar) (inner_cells c.args.self.now.cells) c.requires refl
    ∙ ap Some (sym c.in_ok-replace-in-Scalar.ensures)

pub returns-in_ok-replace-in-Whole : goal.returns-in_ok-replace-in-Whole
returns-in_ok-replace-in-Whole c =
    let object = plain_object c.args.self.now in
    ap (λ v. with_written object (plain_path c.args.path.now) (plain_value v)) c.in-Whole.is
    ∙ whole_put object (plain_steps c.args.path.now) (plain_cells c.in-Whole.cells) (inner_cells c.args.self.now.cells) c.requires refl
    ∙ ap Some (sym c.in_ok-replace-in-Whole.ensures)
