use Rattle.cond_formula.specs.Features.{has}
use Rattle.cond_formula.specs.Conditions.{condition_of, value}
use Rattle.c_tree.specs.Trees.{none}
use Rattle.choice_trees.specs.ChoiceTrees.{plain_item, item_at}
use Rattle.choice_variants.specs.Variants.{before}
use Rattle.cond_member_uses.specs.Noted.{noted_at}
use Rattle.cond_member_uses.proofs.Blocks.{where_also}
use Rattle.cond_member_uses.proofs.Declarations.{unchanged}
use Rattle.cond_unit_uses.specs.Functions.{NotesDefined}
use Rattle.cond_unit_uses.proofs.Shapes.{empty_declarators, empty_body, defined_here}
use Rattle.cond_unit_uses.proofs.definitions.DefinitionPartsPartsReader.note_parts.Goals as goal

pub returns-in_default-clause-notes : goal.returns-in_default-clause-notes
returns-in_default-clause-notes g c = λ n admitted.
    let a = noted_at (has n) c.args.tables.now c.args.log.now in
    unchanged (value (has n) (condition_of c.args.when.now)) (NotesDefined (before (has n) c.args.parts.now none)) a (empty_declarators a a (before (has n) c.args.parts.now none) (c.in_default.ensures (has n)))

pub returns-in_default-item_in-clause-notes : goal.returns-in_default-item_in-clause-notes
returns-in_default-item_in-clause-notes g c = λ n admitted.
    let a = noted_at (has n) c.args.tables.now c.args.log.now in
    unchanged (value (has n) (condition_of c.args.when.now)) (NotesDefined (before (has n) c.args.parts.now none)) a (empty_body a a (before (has n) c.args.parts.now none) (c.in_default-item_in.ensures (has n)))

pub returns-clause-notes : goal.returns-clause-notes
returns-clause-notes g c = λ n admitted.
    let a = noted_at (has n) c.args.tables.now c.args.log.now in
    let b = noted_at (has n) c.note_node.new.tables c.note_node.new.log in
    where_also (value (has n) (condition_of c.args.when.now)) _ _ a b
    (defined_here a b (before (has n) c.args.parts.now none) (item_at (has n) (plain_item c.in-Some.list.now)) (item_at (has n) (plain_item c.in-Some-item_in.body.now)) (c.in-Some.ensures (has n)) (c.in-Some-item_in.ensures (has n)))
    (c.in_ok-note_node.ensures.notes n admitted)
