use Rattle.std.proofs.Common.{◌≡◌, ◌∙◌, ap, length, arith}
use Rattle.core_cells.specs.Forms.{rest_cells}
use Rattle.core_cells.proofs.CellLemmas.{grown}
use Rattle.core_cells.proofs.cells.reach.Goals as goal

pub loop-alloc-preserved : goal.loop-alloc-preserved
loop-alloc-preserved c =
    let next : c.len-next.result ≡ length c.loop-alloc.parts.items = omega (arith, c.loop-alloc.parts.ok.0) in
    λ held.
    grown held c.loop-alloc.parts.items _ c.untouched.result c.args.rest c.in_ok-push.ensures.items (c.untouched.ensures ∙ c.rest_of_part.ensures ∙ ap (rest_cells c.args.rest) next)
    ∙ c.loop-alloc.invariant held
