use Rattle.sat_core.proofs.TranslationLaws.{translation_law}
use Rattle.sat_core.proofs.laws.translations_are_equisatisfiable.Goals as goal

pub returns : goal.returns
returns c = translation_law
