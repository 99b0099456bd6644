use Rattle.std.proofs.Common.{[], ap, ◌∙◌}
use Rattle.c_tree.specs.Trees.{plain_trees}
use Rattle.core_meaning.specs.Linking as spec
use Rattle.plain_elab.proofs.TextLaws.{units_texts}
use Rattle.plain_elab.proofs.collecting.texts_of.Goals as goal

pub returns-clause-texts : goal.returns-clause-texts
returns-clause-texts c =
    c.in_ok-add_trees.ensures.texts
    ∙ ap (λ known. spec.different_texts known (spec.texts_in_all (plain_trees c.args.units.now))) c.new-texts.ensures.none
    ∙ ap (spec.different_texts []) (units_texts c.args.units.now)
