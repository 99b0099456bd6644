use Rattle.std.proofs.Common.{refl, ap, ◌∙◌, subst}
use Rattle.cond_formula.specs.Features.{has}
use Rattle.cond_formula.specs.Conditions.{condition_of, value}
use Rattle.conditional.specs.Entries.{seen}
use Rattle.c_tree.specs.declared.kinds.Kind.TheVariants as k
use Rattle.c_tree.specs.Trees.{PlainTrees, trees}
use Rattle.choice_trees.specs.ChoiceTrees.{plain_choices, parts_at}
use Rattle.declarator_lists.specs.Entries.{entries_at}
use Rattle.cond_units.proofs.EachItem.{trees_again}
use Rattle.cond_unit_uses.specs.Noted.{noted_unit, Where, NotesItems}
use Rattle.cond_unit_uses.proofs.items.note_items.Goals as goal

pub returns-clause-notes : goal.returns-clause-notes
returns-clause-notes g c = λ n globals admitted.
    subst (λ (parts : PlainTrees). Where (value (has n) (condition_of c.args.when.now)) (NotesItems globals parts) (noted_unit (has n) c.args.unit.now c.args.log.now) (noted_unit (has n) c.note_each.new.unit c.note_each.new.log))
    (ap (λ list. trees (seen (has n) (entries_at (has n) list))) c.deref.ensures.value
    ∙ (ap trees (c.in_ok-all.ensures.seen n k.Unit admitted (λ place. refl)) ∙ trees_again (parts_at (has n) k.Unit 0 (plain_choices c.args.items.now))))
    (c.in_ok-note_each.ensures.notes n globals (ap (value (has n)) c.in_ok-all.ensures.kept ∙ admitted))
