use Rattle.std.proofs.Common.{rules, ap, ◌∙◌}
use Rattle.std.proofs.lemmas.Option.{get_or_from_slice_get}
use Rattle.conditional.specs.declared.entries.Guarded.{Guarded}
use Rattle.cond_formula.specs.Conditions.{condition_of}
use Rattle.conditional.proofs.ValueLaws.{placed_joined}
use Rattle.conditional.proofs.values.widen.Goals as goal

pub returns : goal.returns
returns g c = λ v a found is on.
    let e = get_or_from_slice_get c.args.alternatives.now.items c.args.i a c.remove-before.result found in
    let taken = c.remove-before.ensures.value ∙ e in
    placed_joined g.T.Plain.form on v a (record { when = c.in_ok-wider.wider; what = c.remove-before.result.what }) (condition_of c.args.when) _ _ c.args.i found is
    (ap (λ (x : Guarded _). g.T.Plain.form x.what) taken) (rw (← taken) (c.in_ok-wider.ensures on)) (search rules)
