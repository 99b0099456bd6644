use Rattle.std.proofs.Common.{◌+◌, drop, map, refl, ap, ◌∙◌, subst}
use Rattle.std.specs.Prelude.{◌⊎◌, ◌↔◌, IsTrue}
use Rattle.std.proofs.lemmas.List.{drop_all}
use Rattle.cond_formula.specs.Features.{has}
use Rattle.cond_formula.specs.declared.formulas.Formula.{False}
use Rattle.cond_formula.specs.Conditions.{condition_of, value}
use Rattle.cond_formula.specs.ConditionLaws.{condition_of-False}
use Rattle.conditional.proofs.ListLaws.{item_of}
use Rattle.link_faults.specs.Faulty.{HasFault, SomeHaveFaults}
use Rattle.link_faults.proofs.FaultLaws.{one_more, none_left, nothing_before}
use Rattle.link_faults.proofs.failing.where_some_have_faults.Goals as goal

pub loop-name-init : goal.loop-name-init
loop-name-init g c = record {
  kept = refl;
  exact = λ n by linked admitted alike follow. nothing_before (value (has n) (condition_of False)) (SomeHaveFaults linked (map (λ v. v.items) c.args.names.now)) (rw condition_of-False refl);
}

pub loop-name-preserved : goal.loop-name-preserved
loop-name-preserved g c = record {
  kept = c.in_ok-faulty.ensures.kept ∙ c.loop-name.invariant.kept;
  exact = λ n by linked admitted alike follow.
      let names = c.args.names.now in
      let x = c.name-item.result in
      let before = value (has n) (condition_of c.loop-name.so_far) in
      let here = value (has n) (condition_of c.in_ok-faulty.faulty) in
      let all = SomeHaveFaults linked (map (λ v. v.items) names) in
      one_more before here (value (has n) (condition_of c.in_ok-so_far.so_far)) (HasFault linked x.items) (SomeHaveFaults linked (map (λ v. v.items) (drop (c.loop-name.name-index + 1) names))) all
      (c.in_ok-so_far.ensures (has n))
      (subst (λ name. IsTrue here ↔ HasFault linked name) c.deref.ensures.value
      (c.in_ok-faulty.ensures.exact n by linked (ap (value (has n)) c.loop-name.invariant.kept ∙ admitted) alike follow))
      (subst (λ rest. (IsTrue before ⊎ SomeHaveFaults linked (map (λ v. v.items) rest)) ↔ all)
      (item_of names x c.loop-name.name-index c.loop-name-test.true c.name-item.is) (c.loop-name.invariant.exact n by linked admitted alike follow));
}

pub returns-clause-exact : goal.returns-clause-exact
returns-clause-exact g c = λ n by linked admitted alike follow.
    let names = c.args.names.now in
    let before = value (has n) (condition_of c.loop-name.so_far) in
    let all = SomeHaveFaults linked (map (λ v. v.items) names) in
    none_left before all
    (subst (λ rest. (IsTrue before ⊎ SomeHaveFaults linked (map (λ v. v.items) rest)) ↔ all) (drop_all c.loop-name.name-index names c.loop-name-test.false)
    (c.loop-name.invariant.exact n by linked admitted alike follow))
