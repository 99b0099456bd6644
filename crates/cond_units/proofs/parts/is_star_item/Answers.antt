use Rattle.std.proofs.Common.{[], ◌∷◌, sym, ap, ◌∙◌}
use Rattle.c_text.specs.Token.{plain_token}
use Rattle.c_tree.specs.declared.terminals.Terminal.TheVariants as t
use Rattle.c_tree.specs.Grammar as grammar
use Rattle.choice_trees.specs.ChoiceTrees.{plain_item, item_at}
use Rattle.choice_trees.specs.ItemLaws.{plain_item-Leaf}
use Rattle.cond_units.proofs.ParameterLists.{star_word}
use Rattle.cond_units.proofs.parts.is_star_item.Goals as goal

pub returns-in-Leaf : goal.returns-in-Leaf
returns-in-Leaf c = λ on.
    star_word (plain_token c.in-Leaf.token) c.terminal.result c.is.result c.is.ensures c.terminal.ensures
    ∙ ap (grammar.is_word (t.Star ∷ [])) (sym (ap (λ i. item_at on (plain_item i)) c.in-Leaf.is ∙ ap (item_at on) (plain_item-Leaf c.in-Leaf.field-0 c.in-Leaf.token)))
