use Rattle.std.proofs.Common.{arith, set, ap, ◌∙◌}
use Rattle.std.proofs.lemmas.List.{map-set}
use Rattle.std.proofs.lemmas.Bool.Decides.{nat_tests}
use Rattle.refute_check.specs.Marks.{values_at, marked}
use Rattle.refute_check.proofs.marks.set_value.Goals as goal

pub returns-clause-values : goal.returns-clause-values
returns-clause-values c =
    map-set (marked c.args.number) c.args.marks.now c.args.variable (record { number = c.args.number; value = c.args.value })
    ∙ ap (set (values_at c.args.number c.args.marks.now) c.args.variable) (grind (arith, nat_tests))
