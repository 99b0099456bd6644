use Rattle.rename_op.proofs.Products.{trees_are}
use Rattle.rename_op.proofs.analysed.analyses_have_trees.Goals as goal

pub returns : goal.returns
returns c =
    trees_are c.programs_are_one.ensures c.outcomes_are_one.ensures c.tokens_spell_one_unit.ensures c.numberings_are_seen.ensures
