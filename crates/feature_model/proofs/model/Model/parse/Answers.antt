use Rattle.std.proofs.Common.{arith}
use Rattle.std.proofs.lemmas.Result.{err_from_is_err_and}
use Rattle.feature_model.proofs.Refusals.{no_model}
use Rattle.feature_model.proofs.model.Model.parse.Goals as goal

pub returns-in_err-formula-clause-model : goal.returns-in_err-formula-clause-model
returns-in_err-formula-clause-model c =
    let p = err_from_is_err_and c.from_residual.result c.from_residual.ensures.1 in
    rw (p.1, p.2)
    (no_model c.args.features.now c.args.constraints.now c.in_err-formula.field-0.0 (omega arith) c.in_err-formula.ensures)
