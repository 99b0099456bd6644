use Rattle.std.proofs.Common.{length}
use Rattle.cond_formula.specs.declared.formulas.Formula.{True}
use Rattle.cond_formula.specs.Conditions.{condition_of}
use Rattle.cond_formula.specs.ConditionLaws.{VarsBelow-raised}
use Rattle.feature_model.specs.ModelView.{admitted}
use Rattle.command_admit.proofs.Admitted.{always_below, found_is}
use Rattle.command_admit.proofs.least.least_admitted.Goals as goal

pub ask-verdict-requires-clause-model_numbered : goal.ask-verdict-requires-clause-model_numbered
ask-verdict-requires-clause-model_numbered c =
    VarsBelow-raised (length c.args.project.now.features.items) 128 c.requires.few (admitted c.args.project.now.model) c.requires.below

pub ask-verdict-requires-clause-numbered : goal.ask-verdict-requires-clause-numbered
ask-verdict-requires-clause-numbered c = always_below

pub returns : goal.returns
returns c =
    let model = admitted c.args.project.now.model in
    found_is c.fewer_features_suffice.ensures c.equal_conditions_have_one_least_model.ensures (length c.args.project.now.features.items) c.requires.few model c.requires.below c.in_ok-found.found (c.in_ok-found.ensures model (condition_of True) c.ask-verdict.ensures)
