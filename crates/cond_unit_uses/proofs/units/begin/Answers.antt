use Rattle.std.proofs.Common.{refl}
use Rattle.cond_types.proofs.LeftUnits.{begun_so}
use Rattle.cond_unit_uses.proofs.units.begin.Goals as goal

pub returns : goal.returns
returns c = λ on.
    begun_so on c.args.unit.now.tables c.args.unit.now.tables c.forget_functions.new.tables c.begin_unit-names.new.self c.args.unit.now.defined c.empty.result refl (c.begin_unit-names.ensures.seen on) (c.forget_functions.ensures on) (c.empty.ensures on)
