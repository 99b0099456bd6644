use Rattle.std.proofs.Common.{Bool, refl, ap, ◌∙◌, subst}
use Rattle.cond_formula.specs.Features.{has}
use Rattle.cond_formula.specs.Conditions.{condition_of, value}
use Rattle.conditional.specs.Entries.{seen}
use Rattle.c_tree.specs.Trees.{trees}
use Rattle.choice_trees.specs.ChoiceTrees.{plain_item, item_at}
use Rattle.declarator_lists.specs.Entries.{entries_at}
use Rattle.cond_unit_uses.specs.Noted.{noted_unit, Where, NotesItem}
use Rattle.cond_unit_uses.proofs.OneItem.{entry_noted}
use Rattle.cond_unit_uses.proofs.items.note_entry.Goals as goal

pub returns-clause-notes : goal.returns-clause-notes
returns-clause-notes g c = λ n globals admitted.
    let tree = item_at (has n) (plain_item c.args.entry.now.item.now) in
    let rest = trees (seen (has n) (entries_at (has n) c.args.rest.now)) in
    let new = record c.declare_item.new.unit { tables = c.note_item.new.tables } in
    subst (λ (b : Bool). Where b (NotesItem globals tree rest) (noted_unit (has n) c.args.unit.now c.args.log.now) (noted_unit (has n) new c.note_item.new.log)) (c.in_ok-here.ensures (has n))
    (entry_noted (has n) globals tree rest (value (has n) (condition_of c.in_ok-here.here)) (value (has n) (condition_of c.in_ok-_refused._refused)) c.args.unit.now c.declare_item.new.unit new c.args.log.now c.note_item.new.log
    (c.in_ok-_refused.ensures.declares n globals admitted) refl (c.in_ok-note_item.ensures.same (has n)) (c.in_ok-note_item.ensures.notes n (ap (value (has n)) c.in_ok-_refused.ensures.kept ∙ admitted)))
