use Rattle.std.proofs.Common.{sym, subst}
use Rattle.std.proofs.lemmas.Result.{IfOk-weaker}
use Rattle.cond_formula.specs.Features.{has}
use Rattle.c_text.specs.Token.{plain_token}
use Rattle.c_tree.specs.Trees.{leaf, more}
use Rattle.choice_trees.specs.ChoiceTrees.{plain_item, item_at}
use Rattle.choice_variants.specs.Variants.{part_at}
use Rattle.expression_types.specs.Reading.{read_expression}
use Rattle.selections.specs.Selections.{structure_of_selection}
use Rattle.cond_selections.specs.Progress.{ShowsStructure}
use Rattle.cond_selections.proofs.Behind.{no_operand}
use Rattle.cond_selections.proofs.structures.structure_by_token.Goals as goal

pub returns-in_ok-read-in-Item-clause-shows : goal.returns-in_ok-read-in-Item-clause-shows
returns-in_ok-read-in-Item-clause-shows g c =
    IfOk-weaker c.structure_behind.result _ _ (λ z shows n rest right admitted.
    let known = g.K.Knowledge.known c.args.known.now n in
    subst (λ part. ShowsStructure (has n) (structure_of_selection known (more (part_at (has n) part) (more (leaf (plain_token c.args.select.now)) rest))) z) (sym c.in-Item.is)
    (shows (has n) (read_expression known (item_at (has n) (plain_item c.in-Item.item.now))).outcome (c.in_ok-read-in-Item.ensures.shows n right admitted).outcome)) c.structure_behind.ensures

pub returns-in-NoStatement-clause-shows : goal.returns-in-NoStatement-clause-shows
returns-in-NoStatement-clause-shows g c =
    IfOk-weaker c.no_structure.result _ _ (λ z shows n rest right admitted.
    let known = g.K.Knowledge.known c.args.known.now n in
    subst (λ part. ShowsStructure (has n) (structure_of_selection known (more (part_at (has n) part) (more (leaf (plain_token c.args.select.now)) rest))) z) (sym c.in-NoStatement.is)
    (subst (λ o. ShowsStructure (has n) o z) (sym (no_operand known (plain_token c.args.select.now) rest)) (shows (has n)))) c.no_structure.ensures
