use Rattle.product_programs.proofs.Found.{programs_found}
use Rattle.product_programs.proofs.programs_are_found.Goals as goal

pub returns : goal.returns
returns c = programs_found (record {
  outcomes = c.units_have_outcomes.ensures;
  read_is_spelt = c.what_is_read_is_spelt.ensures;
  spelt_is_read = c.what_is_spelt_is_read.ensures;
  trees_are_one = c.tokens_spell_one_unit.ensures;
  one_outcome = c.outcomes_are_one.ensures;
  one = c.programs_are_one.ensures;
})
