use Rattle.std.proofs.Common.{◌≡◌, List, subst}
use Rattle.cond_formula.specs.Conditions.{condition_of, value}
use Rattle.cond_tokens.specs.declared.tokens.CondStream.{CondStream}
use Rattle.told_occurrences.specs.declared.told.ToldUnit.{ToldUnit}
use Rattle.class_occurrences.specs.Occurring.{comes_from_macro_body}
use Rattle.class_conditions.specs.Told.{some_unit_passes}
use Rattle.rename_op.proofs.Told.{in-macro-body-told}
use Rattle.rename_op.proofs.breaking.where_from_macro_body.Goals as goal

pub returns : goal.returns
returns c = λ place is before.
    let f = condition_of c.in_ok-f.f in
    let test = comes_from_macro_body c.args.asked.now.class.now in
    in-macro-body-told c.args.asked.now place is c.analyses_are_told.ensures c.conditions_tell_preconditions.ensures before.0 f
    (λ on. subst (λ (told : List ToldUnit). value on f ≡ some_unit_passes on test c.args.asked.now.analysis.now.parsed.streams.items told) c.deref-2.ensures.value
    (subst (λ (streams : List CondStream). value on f ≡ some_unit_passes on test streams c.deref-2.result.now) c.deref.ensures.value (c.in_ok-f.ensures on)))
