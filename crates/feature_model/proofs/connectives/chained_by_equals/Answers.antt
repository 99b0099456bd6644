use Rattle.std.proofs.Common.{◌≡◌, [], ◌∷◌, map, ap, ◌∙◌, sym, arith}
use Rattle.std.proofs.lemmas.List.{nil_from_length}
use Rattle.std.proofs.lemmas.List.Elements.{All-same, All-head, All-tail, All-push}
use Rattle.cond_formula.specs.ConditionLaws.{condition_of-True}
use Rattle.feature_model.specs.ReaderView.{value_in, chained}
use Rattle.feature_model.specs.Bounds.{IsBelow}
use Rattle.feature_model.proofs.Chains.{chained-step}
use Rattle.feature_model.proofs.connectives.chained_by_equals.Goals as goal

pub loop-first-preserved : goal.loop-first-preserved
loop-first-preserved c =
    let a = c.in-Some.first in
    let b = c.in-Some-pop_front.second in
    let p = c.in_ok-pair-in-Some-pop_front.pair in
    let ys = c.pop_front.new.self.items in
    let zs = c.pop_front-in-Some.new.self.items in
    let pushed = c.in_ok-push_back-in-Some-pop_front.ensures.items in
    record {
      value = λ on.
          chained-step (value_in on) _ ys zs _ a b p c.in-Some.ensures.items c.in-Some-pop_front.ensures.items pushed
          (c.in_ok-pair-in-Some-pop_front.ensures.value on)
          ∙ c.loop-first.invariant.value on;
      below = λ count operands.
          let Is = IsBelow count in
          let all = All-same Is (a ∷ ys) _ (sym c.in-Some.ensures.items) (c.loop-first.invariant.below count operands) in
          let more = All-same Is (b ∷ zs) ys (sym c.in-Some-pop_front.ensures.items) (All-tail Is a ys all) in
          let both = c.in_ok-pair-in-Some-pop_front.ensures.below count (All-head Is a ys all) (All-head Is b zs more) in
          All-same Is _ _ pushed (All-push Is zs p (All-tail Is b zs more) both);
    }

pub returns-clause-value : goal.returns-clause-value
returns-clause-value c = λ on.
    let items = c.loop-first.operands.items in
    let none : items ≡ [] = nil_from_length items (omega (arith, c.in_default.ensures.cases.0, c.loop-first.operands.ok.0)) in
    rw condition_of-True
    (ap (λ l. chained (map (value_in on) l)) (sym none) ∙ c.loop-first.invariant.value on)

pub returns-clause-below : goal.returns-clause-below
returns-clause-below c = λ count all. rw condition_of-True tt
