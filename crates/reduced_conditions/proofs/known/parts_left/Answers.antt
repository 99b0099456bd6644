use Rattle.std.proofs.Common.{◌≡◌, ◌+◌, List, ◌∷◌, ◌&&◌, drop, ap, sym, ◌∙◌}
use Rattle.std.proofs.lemmas.List.{drop_more}
use Rattle.cond_formula.specs.declared.formulas.Formula.{Formula}
use Rattle.cond_formula.specs.Conditions.{condition_of, conditions_of, value, all_true}
use Rattle.reduced_conditions.proofs.PartLemmas.{kept_same, kept_true}
use Rattle.reduced_conditions.proofs.known.parts_left.Goals as goal

pub loop-part-preserved : goal.loop-part-preserved
loop-part-preserved c =
    let parts = c.args.parts.now in
    let i = c.loop-part.part-index in
    let part = c.part-item.result in
    let k = c.loop-part.kept in
    let after = drop (i + 1) parts in
    let next : drop i parts ≡ part ∷ after = drop_more parts i part c.loop-part-test.true ∙ ap (λ (p : Formula). p ∷ after) (sym c.part-item.is) in (
      λ on off.
          kept_same (value on (condition_of k)) (value on (condition_of part)) (all_true on (conditions_of after)) (value on (condition_of c.in_ok-kept.kept)) (all_true on (conditions_of parts)) (c.in_ok-kept.ensures.same on off)
          (ap (λ (ps : List Formula). value on (condition_of k) && all_true on (conditions_of ps)) (sym next) ∙ c.loop-part.invariant.0 on off),
      λ on all.
          kept_true (value on (condition_of k)) (value on (condition_of part)) (all_true on (conditions_of after)) (value on (condition_of c.in_ok-kept.kept)) (c.in_ok-kept.ensures.wider on)
          (ap (λ (ps : List Formula). value on (condition_of k) && all_true on (conditions_of ps)) (sym next) ∙ c.loop-part.invariant.1 on all),
    )
