use Rattle.std.proofs.Common.{◌||◌, ap₂, Bool}
use Rattle.link_faults.proofs.Gathering.{units_are}
use Rattle.link_faults.proofs.gathered.external_declarations.Goals as goal

pub loop-left-init : goal.loop-left-init
loop-left-init c = λ on tables test.
    ap₂ (λ (a b : Bool). a || b) (c.in_ok-all.ensures on tables test) (units_are on tables test c.args.name.now c.args.units.now)
