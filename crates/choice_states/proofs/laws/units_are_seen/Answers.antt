use Rattle.std.proofs.Common.{refl}
use Rattle.c_tree.specs.declared.kinds.Kind.TheVariants.{Unit}
use Rattle.choice_trees.specs.ChoiceTrees.{plain_choices}
use Rattle.choice_states.proofs.Wholes.{whole_seen}
use Rattle.choice_states.proofs.laws.units_are_seen.Goals as goal

pub returns : goal.returns
returns c = λ on forest. whole_seen on Unit (plain_choices forest.items.items) refl
