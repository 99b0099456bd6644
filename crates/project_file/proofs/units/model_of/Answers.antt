use Rattle.std.proofs.Common.{arith}
use Rattle.feature_model.specs.ModelView.{admitted}
use Rattle.project_file.proofs.TextLemmas.{no_model, model_is}
use Rattle.project_file.proofs.units.model_of.Goals as goal

pub returns-in-Err : goal.returns-in-Err
returns-in-Err c =
    rw c.refusal_of.ensures
    (no_model c.tree_is_one.ensures c.args.features.now c.args.constraints.now c.in-Err.error (omega (arith, c.requires.few)) c.in-Err.ensures.model)

pub returns-in-Ok : goal.returns-in-Ok
returns-in-Ok c = model_is c.args.features.now c.args.constraints.now (admitted c.in-Ok.model) c.in-Ok.ensures.model
