use Rattle.std.proofs.Common.{inl, Bor, sym}
use Rattle.c_tree.specs.declared.terminals.Terminal.TheVariants as t
use Rattle.c_tree.specs.Trees.{none}
use Rattle.choice_trees.specs.declared.trees.Item.{Item}
use Rattle.choice_trees.specs.ChoiceTrees.{plain_item, item_at}
use Rattle.choice_variants.specs.Variants.{part_at, before}
use Rattle.core_meaning.specs.Declarations.{behind_word}
use Rattle.cond_unit_uses.proofs.Places.{found_there}
use Rattle.cond_unit_uses.proofs.parts.list_in.Goals as goal

pub returns-in_default : goal.returns-in_default
returns-in_default c = λ on. inl (sym (c.in_default.ensures on))

pub returns : goal.returns
returns c = λ on.
    found_there (λ (item : Bor Item). item_at on (plain_item item.now)) c.item_of.result (part_at on c.in-Some.part) (behind_word t.OpenParenthesis (before on c.args.parts.now none))
    (sym (c.in-Some.ensures on)) (c.item_of.ensures on)
