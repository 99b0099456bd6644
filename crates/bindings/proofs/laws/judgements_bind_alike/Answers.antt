use Rattle.bindings.proofs.Lawful.{judgements_bind_alike}
use Rattle.bindings.proofs.laws.judgements_bind_alike.Goals as goal

pub returns : goal.returns
returns c = judgements_bind_alike c.units_are_derived.ensures
