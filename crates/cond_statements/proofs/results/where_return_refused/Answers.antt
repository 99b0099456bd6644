use Rattle.std.proofs.Common.{◌||◌, sym, ap, subst}
use Rattle.cond_formula.specs.Conditions.{condition_of, value}
use Rattle.conditional.specs.Entries.{entries_of, Stands}
use Rattle.type_tables.specs.Forms.{declared_type_form}
use Rattle.cond_statements.specs.Results.{return_refused, some_refused}
use Rattle.cond_statements.proofs.Refusals.{some_goes_on, some_end}
use Rattle.cond_statements.proofs.results.where_return_refused.Goals as goal

pub loop-alternative-init : goal.loop-alternative-init
loop-alternative-init c = λ on x shows. ap (λ b. b || some_refused (return_refused x) on (entries_of declared_type_form c.deref-alternative-items.result.now)) (c.in_ok-refused.ensures on)

pub loop-alternative-preserved : goal.loop-alternative-preserved
loop-alternative-preserved c = λ on x shows.
    some_goes_on declared_type_form (return_refused x) on c.deref-alternative-items.result.now c.alternative-item.result c.loop-alternative.alternative-index (value on (condition_of c.loop-alternative.refused))
    (value on (condition_of c.in_ok-here.here)) (value on (condition_of c.in_ok-refused-2.refused)) c.loop-alternative-test.true c.alternative-item.is (c.in_ok-refused-2.ensures on) (c.in_ok-here.ensures on x shows)
    (c.loop-alternative.invariant on x shows)

pub returns : goal.returns
returns c = λ on x ty shows stands.
    some_end declared_type_form (return_refused x) on c.deref-alternative-items.result.now c.loop-alternative.alternative-index (value on (condition_of c.loop-alternative.refused)) ty c.loop-alternative-test.false
    (c.loop-alternative.invariant on x shows) (subst (λ es. Stands on ty (entries_of declared_type_form es)) (sym c.deref-alternative-items.ensures.value) stands)
