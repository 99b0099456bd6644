use Rattle.std.proofs.Common.{◌≡◌, ◌+◌, ◌∷◌, ◌++◌, [], map, take, ap, sym, ◌∙◌}
use Rattle.std.proofs.lemmas.List.{take_more, take_all, map-append}
use Rattle.core_meaning.specs.Plain.{plain_part, path_from}
use Rattle.core_meaning.specs.Meaning.{cells_filled}
use Rattle.core_cells.specs.Forms.{plain_cells, zeros_of}
use Rattle.core_cells.specs.CellForms.{by_paths}
use Rattle.core_memory.specs.InitialForms.{with_cells_at}
use Rattle.core_memory.proofs.InitialLemmas.{one_more_filled}
use Rattle.core_memory.proofs.initial.filled.Goals as goal

pub loop-part-preserved : goal.loop-part-preserved
loop-part-preserved c =
    let held = plain_cells c.args.held.now in
    let z = by_paths (zeros_of c.args.zeros) in
    let parts = c.args.parts.now in
    let i = c.loop-part.part-index in
    let item = c.part-item.result in
    let grown : take (i + 1) parts ≡ take i parts ++ item ∷ [] = take_more parts i item c.loop-part-test.true ∙ ap (λ x. take i parts ++ x ∷ []) (sym c.part-item.is) in
    c.in_ok-cells.ensures
    ∙ ap (λ numbers. with_cells_at (path_from numbers) held (plain_cells c.loop-part.cells)) c.deref.ensures.value
    ∙ ap (with_cells_at (plain_part item).path held) c.loop-part.invariant
    ∙ one_more_filled (map plain_part (take i parts)) (plain_part item) z held
    ∙ ap (λ ps. cells_filled ps z held) (sym (ap (map plain_part) grown ∙ map-append plain_part (take i parts) (item ∷ [])))

pub returns : goal.returns
returns c =
    c.loop-part.invariant
    ∙ ap (λ ps. cells_filled (map plain_part ps) (by_paths (zeros_of c.args.zeros)) (plain_cells c.args.held.now)) (take_all c.loop-part.part-index c.args.parts.now c.loop-part-test.false)
