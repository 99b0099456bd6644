use Rattle.std.proofs.Common.{sym, ap, ◌∙◌, subst}
use Rattle.std.proofs.lemmas.Result.{on_ok_weaker}
use Rattle.cond_formula.specs.Features.{has}
use Rattle.cond_formula.specs.Conditions.{condition_of, value}
use Rattle.c_tree.specs.declared.kinds.Kind.TheVariants as k
use Rattle.c_tree.specs.Trees.{PlainTrees}
use Rattle.choice_trees.specs.ChoiceTrees.{plain_item, plain_choices, item_at, parts_at}
use Rattle.choice_trees.specs.ItemLaws.{plain_item-Node}
use Rattle.cond_locals.proofs.Parts.{listed_parts}
use Rattle.cond_member_uses.specs.Noted.{noted_at, Where}
use Rattle.cond_member_uses.specs.Declared.{NotesList}
use Rattle.cond_member_uses.proofs.declarators.note_list.Goals as goal

pub returns-in-Node-clause-notes : goal.returns-in-Node-clause-notes
returns-in-Node-clause-notes g c =
    on_ok_weaker c.note_parts.result (λ notes n parts admitted at.
    subst (λ (list : PlainTrees). Where (value (has n) (condition_of c.args.when.now)) (NotesList (has n) c.args.base.now list) (noted_at (has n) c.args.tables.now c.args.log.now) (noted_at (has n) c.note_parts.new.tables c.note_parts.new.log))
    (ap (λ list. parts_at (has n) k.Declarators 0 (plain_choices list)) c.deref.ensures.value
    ∙ listed_parts (has n) c.in-Node.field-0 (plain_choices c.in-Node.parts.items) parts
    (sym (ap (item_at (has n)) (ap plain_item c.in-Node.is ∙ plain_item-Node c.in-Node.field-0 c.in-Node.parts)) ∙ at))
    (notes n admitted)) c.note_parts.ensures.notes

pub returns-in-Node-clause-elsewhere : goal.returns-in-Node-clause-elsewhere
returns-in-Node-clause-elsewhere g c = on_ok_weaker c.note_parts.result (λ notes n admitted off. (notes n admitted).elsewhere off) c.note_parts.ensures.notes
