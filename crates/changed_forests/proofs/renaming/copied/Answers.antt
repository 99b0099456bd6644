use Rattle.std.proofs.Common.{◌∙◌}
use Rattle.choice_trees.specs.ChoiceTrees.{plain_choices}
use Rattle.changed_forests.proofs.Unchanged.{nothing_changed}
use Rattle.changed_forests.proofs.renaming.copied.Goals as goal

pub returns : goal.returns
returns c = c.in_ok-copy.ensures ∙ nothing_changed (plain_choices c.args.forest.now.items.items)
