-- The condition under which a model admits a configuration.
use Rattle.cond_formula.specs.Conditions.{Condition, condition_of}
use Rattle.feature_model.specs.declared.model.Model.{Model}

abbrev pub admitted : Model → Condition
admitted model = condition_of model.formula
