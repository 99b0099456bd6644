use Rattle.sat_core.proofs.TranslationLaws.{no_model_law}
use Rattle.sat_core.proofs.laws.refuted_formulas_have_no_model.Goals as goal

pub returns : goal.returns
returns c = no_model_law c.refuted_clauses_are_unsatisfiable.ensures
