use Rattle.product_outcomes.proofs.LeftOut.{none_left_out}
use Rattle.product_outcomes.proofs.no_product_is_left_out.Goals as goal

pub returns : goal.returns
returns c =
    none_left_out (record {
      outcomes = c.units_have_outcomes.ensures;
      spelt = c.tokens_are_spelt.ensures;
      read_is_spelt = c.what_is_read_is_spelt.ensures;
      spelt_is_read = c.what_is_spelt_is_read.ensures;
      trees_are_one = c.tokens_spell_one_unit.ensures;
      judged = c.programs_are_judged.ensures;
      none_left = c.no_units_are_left_out.ensures;
    })
