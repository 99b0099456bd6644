use Rattle.bound_slots.proofs.Sizes.{sizes_bind_nothing}
use Rattle.bound_slots.proofs.sizes_bind_nothing.Goals as goal

pub returns : goal.returns
returns c = sizes_bind_nothing
