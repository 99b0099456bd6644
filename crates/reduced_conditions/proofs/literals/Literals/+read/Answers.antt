use Rattle.std.proofs.Common.{◌≡◌, ℕ, Bool, true, false, sym, ◌∙◌}
use Rattle.cond_formula.specs.Conditions.{condition_of, conditions_of, value, all_true, any_true}
use Rattle.reduced_conditions.specs.Literals.{EachHas}
use Rattle.reduced_conditions.proofs.LiteralLaws.{each_at, each_from, each_end, each_of_all, all_of_each, each_of_none, none_of_each, and_says, or_says, var_tells, tells_same}
use Rattle.reduced_conditions.proofs.literals.Literals.+read.Goals as goal

pub take-returns-in-Var : goal.take-returns-in-Var
take-returns-in-Var d c = var_tells c.args.self.now c.take_feature.new.self c.args.f.now c.in-Var.feature c.args.is_true c.in-Var.is c.take_feature.ensures

pub take-returns-in-And : goal.take-returns-in-And
take-returns-in-And d c =
    let parts = c.deref-in-And.result.now in
    let says : (on : ℕ → Bool) → value on (condition_of c.args.f.now) ≡ all_true on (conditions_of parts) =
    λ on. and_says on c.args.f.now c.in-And.parts parts c.in-And.is c.deref-in-And.ensures.value in
    tells_same c.args.self.now c.take_each.new.self (λ on. EachHas true on (conditions_of parts)) (λ on. value on (condition_of c.args.f.now) ≡ c.args.is_true) c.take_each.ensures
    (λ on is. each_of_all on (conditions_of parts) (sym (says on) ∙ is ∙ c.if-is_true-2.true)) (λ on each. says on ∙ all_of_each on (conditions_of parts) each ∙ sym c.if-is_true-2.true)

pub take-returns-in-Or : goal.take-returns-in-Or
take-returns-in-Or d c =
    let parts = c.deref-in-Or.result.now in
    let says : (on : ℕ → Bool) → value on (condition_of c.args.f.now) ≡ any_true on (conditions_of parts) =
    λ on. or_says on c.args.f.now c.in-Or.parts parts c.in-Or.is c.deref-in-Or.ensures.value in
    tells_same c.args.self.now c.take_each-in-Or.new.self (λ on. EachHas false on (conditions_of parts)) (λ on. value on (condition_of c.args.f.now) ≡ c.args.is_true) c.take_each-in-Or.ensures
    (λ on is. each_of_none on (conditions_of parts) (sym (says on) ∙ is ∙ c.if-not-is_true-2.true)) (λ on each. says on ∙ none_of_each on (conditions_of parts) each ∙ sym c.if-not-is_true-2.true)

pub take_part-returns-in-Var : goal.take_part-returns-in-Var
take_part-returns-in-Var d c = var_tells c.args.self.now c.take_feature.new.self c.args.part.now c.in-Var.feature c.args.is_true c.in-Var.is c.take_feature.ensures

pub take_each-loop-part-preserved : goal.take_each-loop-part-preserved
take_each-loop-part-preserved d c =
    let parts = c.args.parts.now in
    let i = c.loop-part.part-index in
    let part = c.part-item.result in (
      λ on are each. c.take_part.ensures.ahead on (c.loop-part.invariant.0 on are each) (each_at c.args.is_true on parts i part c.loop-part-test.true c.part-item.is each),
      (
        λ all. c.loop-part.invariant.1.0 (c.take_part.ensures.all all),
        (
          λ on are. c.loop-part.invariant.1.1.0 on (c.take_part.ensures.kept on are),
          λ all on are rest. c.loop-part.invariant.1.1.1 (c.take_part.ensures.all all) on (c.take_part.ensures.kept on are)
              (each_from c.args.is_true on parts i part c.loop-part-test.true c.part-item.is (c.take_part.ensures.back all on are) rest),
        ),
      ),
    )

pub take_each-returns : goal.take_each-returns
take_each-returns d c =
    record {
      ahead = λ on are each. c.loop-part.invariant.0 on are each;
      all = c.loop-part.invariant.1.0;
      kept = c.loop-part.invariant.1.1.0;
      back = λ all on are. c.loop-part.invariant.1.1.1 all on are (each_end c.args.is_true on c.args.parts.now c.loop-part.part-index c.loop-part-test.false);
    }
