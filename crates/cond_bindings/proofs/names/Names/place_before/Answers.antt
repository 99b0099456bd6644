use Rattle.cond_bindings.proofs.PlaceLemmas.{visible_none}
use Rattle.cond_bindings.proofs.names.Names.place_before.Goals as goal

pub returns-in-Block-clause-visible : goal.returns-in-Block-clause-visible
returns-in-Block-clause-visible c = rw c.in-Block.is (visible_none c.args.self.now.bindings.declarations.items)

pub returns-in-Members-clause-visible : goal.returns-in-Members-clause-visible
returns-in-Members-clause-visible c = rw c.in-Members.is (visible_none c.args.self.now.bindings.declarations.items)
