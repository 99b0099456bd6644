use Rattle.std.proofs.Common.{refl}
use Rattle.cond_formula.specs.Conditions.{Inverse, condition_of}
use Rattle.conditional.specs.Entries.{alternatives}
use Rattle.conditional.proofs.ValueLaws.{chosen}
use Rattle.known_tables.proofs.shadowing.shadowed.Goals as goal

pub returns : goal.returns
returns g c = λ on p q declared around.
    chosen on (condition_of c.args.when.now) (Inverse (condition_of c.args.when.now)) (alternatives g.T.Plain.form c.args.declared.now) (alternatives g.T.Plain.form c.args.around) (alternatives g.T.Plain.form c.nothing-all.result) _ _
    refl (c.nothing-all.ensures on) (c.in_ok-place_under.ensures on) (c.in_ok-place_elsewhere.ensures on) p q declared around
