use Rattle.std.proofs.Common.{◌||◌, map, sym, ap, ◌∙◌, arith}
use Rattle.std.proofs.lemmas.List.{drop_all}
use Rattle.cond_formula.specs.Conditions.{condition_of, value}
use Rattle.cond_expressions.specs.Values.{value_entry}
use Rattle.cond_groups.specs.Truths.{any_met, any_bad}
use Rattle.cond_groups.proofs.ConditionLemmas.{truth-found, or-false}
use Rattle.cond_groups.proofs.conditions.truth_of.Goals as goal

pub returns : goal.returns
returns c =
    λ on v alone.
    let values = c.args.values.now in
    let i = c.loop-when.when-index in
    let t = c.loop-when.truth in
    let rest = drop_all i values (omega arith) in
    let h = sym (or-false (value on (condition_of t.holds))) ∙ ap (λ es. value on (condition_of t.holds) || any_met on (map value_entry es)) (sym rest) ∙ c.loop-when.invariant.0 on in
    let rf = sym (or-false (value on (condition_of t.refused))) ∙ ap (λ es. value on (condition_of t.refused) || any_bad on (map value_entry es)) (sym rest) ∙ c.loop-when.invariant.1 on in
    truth-found on (map value_entry values) (value on (condition_of t.holds)) (value on (condition_of t.refused)) (value on (condition_of c.args.refused)) v h rf alone
