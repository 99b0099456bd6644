use Rattle.std.proofs.Common.{sym, subst}
use Rattle.std.proofs.lemmas.Result.{IfOk-weaker}
use Rattle.cond_formula.specs.Features.{has}
use Rattle.c_tree.specs.Trees.{more}
use Rattle.choice_variants.specs.Variants.{part_at}
use Rattle.selections.specs.Selections.{structure_of_selection}
use Rattle.cond_selections.specs.Progress.{ShowsStructure}
use Rattle.cond_selections.proofs.structures.structure_by_part.Goals as goal

pub returns-in-Item-clause-shows : goal.returns-in-Item-clause-shows
returns-in-Item-clause-shows g c =
    IfOk-weaker c.structure_by_item.result _ _ (λ z shows n rest right admitted.
    let known = g.K.Knowledge.known c.args.known.now n in
    subst (λ part. ShowsStructure (has n) (structure_of_selection known (more (part_at (has n) c.args.operand.now) (more (part_at (has n) part) rest))) z) (sym c.in-Item.is)
    (shows n rest right admitted)) c.structure_by_item.ensures.shows

pub returns-in-NoStatement-clause-shows : goal.returns-in-NoStatement-clause-shows
returns-in-NoStatement-clause-shows g c =
    IfOk-weaker c.no_structure.result _ _ (λ z shows n rest right admitted.
    let known = g.K.Knowledge.known c.args.known.now n in
    subst (λ part. ShowsStructure (has n) (structure_of_selection known (more (part_at (has n) c.args.operand.now) (more (part_at (has n) part) rest))) z) (sym c.in-NoStatement.is)
    (shows (has n))) c.no_structure.ensures
