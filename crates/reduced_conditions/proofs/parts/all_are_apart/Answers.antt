use Rattle.std.proofs.Common.{◌≡◌, ◌+◌, List, ◌∷◌, ◌&&◌, drop, ap, sym, ◌∙◌}
use Rattle.std.proofs.lemmas.List.{drop_more}
use Rattle.cond_formula.specs.declared.formulas.Formula.{Formula}
use Rattle.cond_formula.specs.Conditions.{condition_of, conditions_of, value, any_true}
use Rattle.reduced_conditions.proofs.PartLemmas.{excluded_goes}
use Rattle.reduced_conditions.proofs.parts.all_are_apart.Goals as goal

pub loop-part-preserved : goal.loop-part-preserved
loop-part-preserved c =
    let parts = c.args.parts.now in
    let i = c.loop-part.part-index in
    let part = c.part-item.result in
    let f = c.args.f.now in
    let after = drop (i + 1) parts in
    let next : drop i parts ≡ part ∷ after = drop_more parts i part c.loop-part-test.true ∙ ap (λ (p : Formula). p ∷ after) (sym c.part-item.is) in
    λ on.
    c.loop-part.invariant on
    ∙ ap (λ (ps : List Formula). any_true on (conditions_of ps) && value on (condition_of f)) next
    ∙ excluded_goes (value on (condition_of part)) (any_true on (conditions_of after)) (value on (condition_of f)) (c.are_apart.ensures c.if-not-are_apart.false on)
