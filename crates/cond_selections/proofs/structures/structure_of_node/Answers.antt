use Rattle.std.proofs.Common.{◌≡◌, false, sym, subst, ◌∙◌}
use Rattle.std.proofs.lemmas.Result.{IfOk-weaker}
use Rattle.cond_formula.specs.Features.{has}
use Rattle.c_tree.specs.declared.kinds.Kind.TheVariants as k
use Rattle.choice_trees.specs.ChoiceTrees.{plain_choices, parts_at}
use Rattle.selections.specs.Selections.{structure_of_node}
use Rattle.cond_selections.specs.Progress.{ShowsStructure}
use Rattle.cond_selections.proofs.Behind.{SelectsAs, selects_as}
use Rattle.cond_selections.proofs.structures.structure_of_node.Goals as goal

pub returns-then-is_selection-clause-shows : goal.returns-then-is_selection-clause-shows
returns-then-is_selection-clause-shows g c =
    let told : c.args.kind ≡ k.Selection = subst (SelectsAs c.args.kind) (sym c.is_selection.ensures ∙ c.if-is_selection.true) (selects_as c.args.kind) in
    IfOk-weaker c.structure_of_selection.result _ _ (λ z shows n right admitted.
    subst (λ kind. ShowsStructure (has n) (structure_of_node (g.K.Knowledge.known c.args.known.now n) kind (parts_at (has n) kind 0 (plain_choices c.args.parts.now))) z) (sym told)
    (shows n right admitted)) c.structure_of_selection.ensures.shows

pub returns-else-is_selection-clause-shows : goal.returns-else-is_selection-clause-shows
returns-else-is_selection-clause-shows g c =
    let told : SelectsAs c.args.kind false = subst (SelectsAs c.args.kind) (sym c.is_selection.ensures ∙ c.if-is_selection.false) (selects_as c.args.kind) in
    IfOk-weaker c.no_structure.result _ _ (λ z shows n right admitted.
    subst (λ o. ShowsStructure (has n) o z) (sym (told (g.K.Knowledge.known c.args.known.now n) (parts_at (has n) c.args.kind 0 (plain_choices c.args.parts.now)))) (shows (has n))) c.no_structure.ensures
