use Rattle.std.proofs.Common.{rules, ◌<◌, length, sym, subst, arith}
use Rattle.std.proofs.lemmas.Result.{IfOk-weaker}
use Rattle.cond_formula.specs.Features.{has}
use Rattle.c_tree.specs.Trees.{none}
use Rattle.choice_variants.specs.Variants.{before}
use Rattle.selections.specs.Selections.{structure_of_selection}
use Rattle.cond_selections.specs.Progress.{ShowsStructure}
use Rattle.cond_selections.proofs.Behind.{few_parts, two_parts}
use Rattle.cond_selections.proofs.structures.structure_of_parts.Goals as goal

pub returns-then-parts-lt2-clause-shows : goal.returns-then-parts-lt2-clause-shows
returns-then-parts-lt2-clause-shows g c =
    let few : length c.args.parts.now < 2 = first_of (search rules, grind arith) in
    IfOk-weaker c.no_structure.result _ _ (λ z shows n right admitted.
    subst (λ o. ShowsStructure (has n) o z) (sym (few_parts (has n) (g.K.Knowledge.known c.args.known.now n) c.args.parts.now few)) (shows (has n))) c.no_structure.ensures

pub returns-else-parts-lt2-clause-shows : goal.returns-else-parts-lt2-clause-shows
returns-else-parts-lt2-clause-shows g c =
    let more_ : 1 < length c.args.parts.now = first_of (search rules, grind arith) in
    IfOk-weaker c.structure_by_part.result _ _ (λ z shows n right admitted.
    subst (λ parts. ShowsStructure (has n) (structure_of_selection (g.K.Knowledge.known c.args.known.now n) (before (has n) parts none)) z)
    (sym (two_parts c.args.parts.now c.index-parts-0.result c.index-parts-1.result more_ c.index-parts-0.is c.index-parts-1.is)) (shows n _ right admitted)) c.structure_by_part.ensures.shows
