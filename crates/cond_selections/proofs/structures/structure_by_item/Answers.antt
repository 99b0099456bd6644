use Rattle.std.proofs.Common.{sym, ap, subst, ◌∙◌}
use Rattle.std.proofs.lemmas.Result.{IfOk-weaker}
use Rattle.cond_formula.specs.Features.{has}
use Rattle.c_tree.specs.Trees.{more}
use Rattle.choice_trees.specs.ChoiceTrees.{plain_item, item_at}
use Rattle.choice_trees.specs.ItemLaws.{plain_item-Leaf}
use Rattle.choice_variants.specs.Variants.{part_at}
use Rattle.selections.specs.Selections.{structure_of_selection}
use Rattle.cond_selections.specs.Progress.{ShowsStructure}
use Rattle.cond_selections.proofs.structures.structure_by_item.Goals as goal

pub returns-in-Leaf-clause-shows : goal.returns-in-Leaf-clause-shows
returns-in-Leaf-clause-shows g c =
    IfOk-weaker c.structure_by_token.result _ _ (λ z shows n rest right admitted.
    let known = g.K.Knowledge.known c.args.known.now n in
    subst (λ item. ShowsStructure (has n) (structure_of_selection known (more (part_at (has n) c.args.operand.now) (more (item_at (has n) item) rest))) z)
    (sym (ap plain_item c.in-Leaf.is ∙ plain_item-Leaf c.in-Leaf.field-0 c.in-Leaf.token)) (shows n rest right admitted)) c.structure_by_token.ensures.shows
