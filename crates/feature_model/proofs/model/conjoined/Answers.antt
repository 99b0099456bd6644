use Rattle.std.proofs.Common.{suc, string_bytes, add-one}
use Rattle.std.proofs.lemmas.Result.{err_from_is_err_and}
use Rattle.cond_formula.specs.ConditionLaws.{condition_of-True}
use Rattle.cond_formula.specs.Conditions.{condition_of}
use Rattle.feature_model.specs.Constraints.{Says, WhyRefused}
use Rattle.feature_model.proofs.ModelLemmas.{admits_all, admits_next}
use Rattle.feature_model.proofs.Refusals.{stopped}
use Rattle.feature_model.proofs.model.conjoined.Goals as goal

pub loop-place-init : goal.loop-place-init
loop-place-init c = rw condition_of-True (admits_all c.args.features.now)

pub loop-place-preserved : goal.loop-place-preserved
loop-place-preserved c =
    let fs = c.args.features.now in
    let says : Says fs (string_bytes c.index-constraints-place.result) (condition_of c.in_ok-constraint.constraint) =
    rw c.as_bytes.ensures.value at c.in_ok-constraint.ensures
    in
    rw add-one
    (admits_next fs c.args.constraints.now c.loop-place.place c.index-constraints-place.result (condition_of c.loop-place.formula)
    (condition_of c.in_ok-constraint.constraint) (condition_of c.in_ok-formula.formula) c.loop-place-test.true
    c.index-constraints-place.is c.loop-place.invariant says c.in_ok-formula.ensures)

pub returns-in_err-constraint : goal.returns-in_err-constraint
returns-in_err-constraint c =
    let fs = c.args.features.now in
    let why : WhyRefused fs (string_bytes c.index-constraints-place.result) (suc c.loop-place.place) c.in_err-constraint.field-0.0 =
    rw (c.as_bytes.ensures.value, add-one) at c.in_err-constraint.ensures
    in
    let p = err_from_is_err_and c.from_residual.result c.from_residual.ensures.1 in
    rw (p.1, p.2)
    (stopped fs c.args.constraints.now c.loop-place.place c.index-constraints-place.result (condition_of c.loop-place.formula)
    c.in_err-constraint.field-0.0 c.loop-place-test.true c.index-constraints-place.is c.loop-place.invariant why)
