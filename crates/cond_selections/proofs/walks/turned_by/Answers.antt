use Rattle.std.proofs.Common.{sym, ◌∙◌}
use Rattle.cond_formula.specs.Conditions.{condition_of, value}
use Rattle.cond_selections.proofs.Choosing.{turns_here, turns_nowhere}
use Rattle.cond_selections.proofs.walks.turned_by.Goals as goal

pub returns-then-not-turns : goal.returns-then-not-turns
returns-then-not-turns c = λ on. turns_nowhere (value on (condition_of c.args.turned)) (value on (condition_of c.args.here)) _ (sym (c.turns.ensures on) ∙ c.if-not-turns.true)

pub returns : goal.returns
returns c = λ on. c.in_ok-both.ensures on ∙ turns_here (value on (condition_of c.args.turned)) (value on (condition_of c.args.here)) _ (sym (c.turns.ensures on) ∙ c.if-not-turns.false)
