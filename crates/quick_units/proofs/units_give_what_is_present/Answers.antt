use Rattle.quick_units.proofs.UnitTexts.{units_give_what_is_present_lem}
use Rattle.quick_units.proofs.units_give_what_is_present.Goals as goal

pub returns : goal.returns
returns c = units_give_what_is_present_lem c.texts_are_spelled.ensures c.projects_have_syntax.ensures
