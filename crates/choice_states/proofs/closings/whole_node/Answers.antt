use Rattle.std.proofs.Common.{ap, ◌∙◌, Some}
use Rattle.choice_trees.specs.ChoiceTrees.{plain_choices}
use Rattle.choice_trees.specs.ItemLaws.{plain_item-Node}
use Rattle.choice_states.specs.Seen.{seen_at}
use Rattle.choice_states.proofs.Wholes.{whole_seen}
use Rattle.choice_states.proofs.closings.whole_node.Goals as goal

pub returns : goal.returns
returns c = λ on whole.
    c.in_ok-part.ensures on
    ∙ ap (λ item. Some (seen_at on item)) (plain_item-Node c.args.kind c.args.parts)
    ∙ ap Some (whole_seen on c.args.kind (plain_choices c.args.parts.items) whole)
