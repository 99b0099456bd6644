use Rattle.rename_op.proofs.FileCaptures.{captures-of-trees}
use Rattle.rename_op.proofs.captures.captures_are_of_trees.Goals as goal

pub returns : goal.returns
returns c = captures-of-trees (record {
  sources = c.sources_are_renamed.ensures;
  of_sources = c.trees_are_of_sources.ensures;
  products = c.products_have_renamed_trees.ensures;
  outcomes = c.outcomes_are_one.ensures;
  one_tree = c.tokens_spell_one_unit.ensures;
  moves = c.moves_dont_name.ensures;
})
