use Rattle.std.proofs.Common.{true≢false, sym, ap, ◌∙◌}
use Rattle.cond_formula.specs.Conditions.{value}
use Rattle.cond_formula.specs.ConditionLaws.{condition_of-False}
use Rattle.reduced_conditions.proofs.conjunctions.conjoined.Goals as goal

pub returns-then-contradict : goal.returns-then-contradict
returns-then-contradict c = λ on. (
  λ is. absurd (true≢false (sym is ∙ ap (value on) condition_of-False)),
  λ are. absurd (c.contradict.ensures c.if-contradict.true on are.0 are.1),
)

pub returns : goal.returns
returns c = λ on. (
  λ is. (c.and-all.ensures on).0 ((c.in_ok-f.ensures on).0 is),
  λ are. (c.in_ok-f.ensures on).1 ((c.and-all.ensures on).1 are),
)
