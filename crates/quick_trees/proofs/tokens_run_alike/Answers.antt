use Rattle.quick_trees.proofs.Alike.{tokens_run_alike_lem}
use Rattle.quick_trees.proofs.tokens_run_alike.Goals as goal

pub returns : goal.returns
returns c = tokens_run_alike_lem c.program_is_of_items.ensures c.numbers_are_read.ensures c.runs_agree.ensures c.tokens_spell_one_unit.ensures c.names_are_read.ensures c.trees_are_spelled.ensures c.elaborates_to_core.ensures
