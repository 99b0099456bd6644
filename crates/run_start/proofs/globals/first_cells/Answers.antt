use Rattle.std.proofs.Common.{◌≡◌, suc, ◌-◌, ◌<◌, ◌≤◌, sym, ap, ◌∙◌, length, map, arith}
use Rattle.std.proofs.lemmas.List.{drop_all}
use Rattle.c_types.specs.Types.{plain_type}
use Rattle.core_meaning.specs.Memory.{zeros}
use Rattle.core_meaning.specs.Plain.{plain_constant_part, plain_layout}
use Rattle.core_meaning.specs.Run as running
use Rattle.core_cells.specs.CellForms.{by_paths}
use Rattle.core_cells.specs.Forms.{zeros_in}
use Rattle.core_memory.specs.InitialForms.{with_scalar_at}
use Rattle.core_memory.proofs.InitialLemmas.{zeros_by_paths}
use Rattle.run_start.specs.Starts.{cells_behind}
use Rattle.run_start.proofs.ObjectLemmas.{part_more}
use Rattle.run_start.proofs.globals.first_cells.Goals as goal

pub loop-left-init : goal.loop-left-init
loop-left-init c =
    let program = c.args.program.now in
    let global = c.args.global.now in
    let parts = global.parts.items in
    let structs = map plain_layout program.structs.items in
    let t = plain_type global.ty in
    let all : length parts ≤ c.len-left.result = omega (arith, global.parts.ok.0) in
    record {
      within = omega (arith, global.parts.ok.0);
      held =
          ap by_paths c.zeros-cells.ensures
          ∙ (ap (λ layouts. by_paths (zeros_in (map plain_layout layouts) t)) c.deref.ensures.value
          ∙ (zeros_by_paths structs t
          ∙ sym (ap (λ xs. running.first_cells (map (plain_constant_part (length program.globals.items)) xs) (zeros structs t)) (drop_all c.len-left.result parts all))));
    }

pub loop-left-preserved : goal.loop-left-preserved
loop-left-preserved c =
    let program = c.args.program.now in
    let global = c.args.global.now in
    let i = c.loop-left.left - 1 in
    let x = c.index.result.now in
    let p = plain_constant_part (length program.globals.items) x in
    let next : c.loop-left.left ≡ suc i = omega (arith, c.loop-left-test.true) in
    let within : i < length global.parts.items = omega (arith, c.loop-left-test.true, c.loop-left.invariant.within) in
    record {
      within = omega arith;
      held =
          c.in_ok-cells.ensures
          ∙ (ap (with_scalar_at p.path p.value) (c.loop-left.invariant.held ∙ ap (cells_behind program global) next)
          ∙ part_more (length program.globals.items) global.parts.items i x (zeros (map plain_layout program.structs.items) (plain_type global.ty)) within c.index.ensures);
    }
