use Rattle.std.proofs.Common.{[], ap, ◌∙◌}
use Rattle.cond_formula.specs.Features.{has}
use Rattle.cond_formula.specs.Conditions.{condition_of, value}
use Rattle.c_tree.specs.declared.kinds.Kind.TheVariants as k
use Rattle.choice_trees.specs.ChoiceTrees.{plain_choices, parts_at}
use Rattle.choice_trees.specs.Leaves.{parts_leaves}
use Rattle.conditional.specs.Entries.{seen, under, listed}
use Rattle.name_spaces.specs.Spaces.{spaces_in_node}
use Rattle.cond_name_spaces.specs.Spaced.{plain_name, names_among, spaced}
use Rattle.cond_name_spaces.proofs.Noting.{alone}
use Rattle.cond_name_spaces.proofs.units.note_spaces.Goals as goal

pub returns-clause-spaced : goal.returns-clause-spaced
returns-clause-spaced g c = λ n admitted.
    let path = value (has n) (condition_of c.args.when.now) in
    alone path (parts_leaves (has n) k.Unit 0 (plain_choices c.deref.result.now)) (spaces_in_node k.Unit [] k.Unit (parts_at (has n) k.Unit 0 (plain_choices c.deref.result.now)))
    (seen (has n) (listed plain_name c.empty-names.result)) (seen (has n) (listed plain_name c.push_node.new.log)) (c.empty-names.ensures (has n))
    (c.in_ok-push_node.ensures.logs n [] admitted (c.in_ok-tags.ensures (has n)))
    ∙ ap (λ list. under path (spaced (names_among (parts_leaves (has n) k.Unit 0 (plain_choices list) [])) (spaces_in_node k.Unit [] k.Unit (parts_at (has n) k.Unit 0 (plain_choices list))))) c.deref.ensures.value
