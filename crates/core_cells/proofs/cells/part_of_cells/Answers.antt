use Rattle.std.proofs.Common.{◌≡◌, ◌∙◌, ap, sym, Some, None, slice_get, arith}
use Rattle.std.proofs.lemmas.Grind.{common_steps}
use Rattle.std.proofs.lemmas.Option.{gets}
use Rattle.core_cells.proofs.CellLemmas.{own_part, rest_part}
use Rattle.core_cells.proofs.cells.part_of_cells.Goals as goal

pub returns-in-Some : goal.returns-in-Some
returns-in-Some c =
    let there : slice_get c.deref.result.now c.args.number ≡ Some c.in-Some.part.now = grind (arith, common_steps, gets) in
    own_part c.args.cells.now c.args.number c.in-Some.part.now (ap (λ items. slice_get items c.args.number) (sym c.deref.ensures.value) ∙ there)

pub returns-in-None : goal.returns-in-None
returns-in-None c =
    let missing : slice_get c.deref.result.now c.args.number ≡ None = grind (arith, common_steps, gets) in
    c.rest_of_part.ensures ∙ rest_part c.args.cells.now c.args.number (ap (λ items. slice_get items c.args.number) (sym c.deref.ensures.value) ∙ missing)
