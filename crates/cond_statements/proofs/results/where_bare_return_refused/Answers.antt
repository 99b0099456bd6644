use Rattle.std.proofs.Common.{◌||◌, sym, ap, subst}
use Rattle.cond_formula.specs.Conditions.{condition_of, value}
use Rattle.conditional.specs.Entries.{entries_of, Stands}
use Rattle.type_tables.specs.Forms.{declared_type_form}
use Rattle.cond_statements.specs.Results.{bare_return_refused, some_refused}
use Rattle.cond_statements.proofs.Refusals.{some_goes_on, some_end}
use Rattle.cond_statements.proofs.results.where_bare_return_refused.Goals as goal

pub loop-alternative-init : goal.loop-alternative-init
loop-alternative-init c = λ on. ap (λ b. b || some_refused bare_return_refused on (entries_of declared_type_form c.deref-alternative-items.result.now)) (c.in_ok-refused.ensures on)

pub loop-alternative-preserved : goal.loop-alternative-preserved
loop-alternative-preserved c = λ on.
    some_goes_on declared_type_form bare_return_refused on c.deref-alternative-items.result.now c.alternative-item.result c.loop-alternative.alternative-index (value on (condition_of c.loop-alternative.refused))
    (value on (condition_of c.in_ok-here.here)) (value on (condition_of c.in_ok-refused-2.refused)) c.loop-alternative-test.true c.alternative-item.is (c.in_ok-refused-2.ensures on) (c.in_ok-here.ensures on)
    (c.loop-alternative.invariant on)

pub returns : goal.returns
returns c = λ on ty stands.
    some_end declared_type_form bare_return_refused on c.deref-alternative-items.result.now c.loop-alternative.alternative-index (value on (condition_of c.loop-alternative.refused)) ty c.loop-alternative-test.false
    (c.loop-alternative.invariant on) (subst (λ es. Stands on ty (entries_of declared_type_form es)) (sym c.deref-alternative-items.ensures.value) stands)
