use Rattle.std.proofs.Common.{length, ap, ◌∙◌}
use Rattle.cond_bindings.specs.Bindings.{visible}
use Rattle.cond_bindings.specs.Places.{latest_first}
use Rattle.cond_bindings.proofs.BelowLemmas.{innermost_below}
use Rattle.cond_bindings.proofs.NameLemmas.{visible_innermost}
use Rattle.cond_bindings.proofs.names.Names.block_place.Goals as goal

pub returns-clause-visible : goal.returns-clause-visible
returns-clause-visible c =
    let s = c.args.self.now in
    let ds = s.bindings.declarations.items in
    let found = rw c.as_slice.ensures.value at c.innermost_place.ensures in
    ap (visible ds) found ∙ visible_innermost ds (latest_first s.blocks.items) c.args.name.now

pub returns-clause-below : goal.returns-clause-below
returns-clause-below c =
    let s = c.args.self.now in
    let found = rw c.as_slice.ensures.value at c.innermost_place.ensures in
    rw found (innermost_below (length s.bindings.declarations.items) (latest_first s.blocks.items) c.args.name.now s.blocks_below)
