use Rattle.std.proofs.Common.{◌≡◌, ◌∙◌, refl, ap, map, take, arith}
use Rattle.std.proofs.lemmas.Grind.{common_steps}
use Rattle.core_cells.specs.Forms.{inner_cells}
use Rattle.core_cells.proofs.CellLemmas.{copied}
use Rattle.core_cells.proofs.cells.Cells.+copy.Goals as goal

pub returns : goal.returns
returns t c =
    let all : take c.loop-part.part-index c.deref-part-items.result.now ≡ c.deref-part-items.result.now = grind (arith, common_steps) in
    copied c.args.self.now _ c.in_ok-held.ensures (c.loop-part.invariant ∙ ap (map inner_cells) (all ∙ c.deref-part-items.ensures.value)) refl
