use Rattle.std.proofs.Common.{ap}
use Rattle.cond_bindings.specs.Bindings.{visible}
use Rattle.cond_bindings.proofs.names.Names.file_place.Goals as goal

pub returns-clause-visible : goal.returns-clause-visible
returns-clause-visible c = ap (visible c.args.self.now.bindings.declarations.items) c.place_in.ensures

pub returns-clause-below : goal.returns-clause-below
returns-clause-below c = rw c.place_in.ensures (c.args.self.now.file_below c.args.name.now)
