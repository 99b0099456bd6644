use Rattle.std.proofs.Common.{not, sym, ◌∙◌}
use Rattle.cond_formula.specs.Conditions.{condition_of, conditions_of, value}
use Rattle.reduced_conditions.proofs.LiteralLaws.{each_at, each_from, each_end, all_of_each, none_of_each, not_all, not_none, and_says, or_says, var_says, differ}
use Rattle.reduced_conditions.proofs.literals.Literals.+shown.Goals as goal

pub show-returns-in-Var : goal.show-returns-in-Var
show-returns-in-Var d c = λ shown on are. var_says on c.args.f.now c.in-Var.feature c.in-Var.is ∙ c.have.ensures shown on are

pub show-returns-in-And : goal.show-returns-in-And
show-returns-in-And d c = λ shown on are.
    and_says on c.args.f.now c.in-And.parts c.deref-in-And.result.now c.in-And.is c.deref-in-And.ensures.value
    ∙ all_of_each on (conditions_of c.deref-in-And.result.now) (c.show_each.ensures shown on are)
    ∙ sym c.if-is_true.true

pub show-returns-in-And-2 : goal.show-returns-in-And-2
show-returns-in-And-2 d c = λ shown on are.
    and_says on c.args.f.now c.in-And-2.parts c.deref-in-And-2.result.now c.in-And-2.is c.deref-in-And-2.ensures.value
    ∙ not_all on (conditions_of c.deref-in-And-2.result.now) (c.show_one.ensures shown on are)
    ∙ sym c.if-is_true.false

pub show-returns-in-Or : goal.show-returns-in-Or
show-returns-in-Or d c = λ shown on are.
    or_says on c.args.f.now c.in-Or.parts c.deref-in-Or.result.now c.in-Or.is c.deref-in-Or.ensures.value
    ∙ not_none on (conditions_of c.deref-in-Or.result.now) (c.show_one-in-Or.ensures shown on are)
    ∙ sym c.if-is_true-2.true

pub show-returns-in-Or-2 : goal.show-returns-in-Or-2
show-returns-in-Or-2 d c = λ shown on are.
    or_says on c.args.f.now c.in-Or-2.parts c.deref-in-Or-2.result.now c.in-Or-2.is c.deref-in-Or-2.ensures.value
    ∙ none_of_each on (conditions_of c.deref-in-Or-2.result.now) (c.show_each-in-Or-2.ensures shown on are)
    ∙ sym c.if-is_true-2.false

pub show_each-loop-part-preserved : goal.show_each-loop-part-preserved
show_each-loop-part-preserved d c = λ on are rest.
    c.loop-part.invariant on are
    (each_from c.args.is_true on c.args.parts.now c.loop-part.part-index c.part-item.result c.loop-part-test.true c.part-item.is (c.show.ensures c.if-not-show.false on are) rest)

pub show_each-returns : goal.show_each-returns
show_each-returns d c = λ shown on are. c.loop-part.invariant on are (each_end c.args.is_true on c.args.parts.now c.loop-part.part-index c.loop-part-test.false)

pub show_one-returns-then-show : goal.show_one-returns-then-show
show_one-returns-then-show d c = λ shown on are each.
    differ (value on (condition_of c.part-item.result)) c.args.is_true (c.show.ensures c.if-show.true on are)
    (each_at (not c.args.is_true) on c.args.parts.now c.loop-part.part-index c.part-item.result c.loop-part-test.true c.part-item.is each)
