use Rattle.cond_formula.specs.Features.{has}
use Rattle.cond_formula.specs.Conditions.{condition_of, value}
use Rattle.c_tree.specs.Trees.{none}
use Rattle.choice_trees.specs.ChoiceTrees.{plain_item, item_at}
use Rattle.choice_variants.specs.Variants.{before}
use Rattle.cond_member_uses.specs.Noted.{noted_at}
use Rattle.cond_member_uses.proofs.Blocks.{where_also}
use Rattle.cond_member_uses.proofs.Declarations.{unchanged}
use Rattle.cond_unit_uses.specs.Functions.{NotesDeclared}
use Rattle.cond_unit_uses.proofs.Shapes.{empty_list, declared_here}
use Rattle.cond_unit_uses.proofs.definitions.DeclaratorPartsPartsReader.note_parts.Goals as goal

pub returns-in_default-clause-notes : goal.returns-in_default-clause-notes
returns-in_default-clause-notes g c = λ n admitted.
    let a = noted_at (has n) c.args.tables.now c.args.log.now in
    let body = item_at (has n) (plain_item c.args.self.now.body.now) in
    unchanged (value (has n) (condition_of c.args.when.now)) (NotesDeclared body (before (has n) c.args.parts.now none)) a (empty_list a a body (before (has n) c.args.parts.now none) (c.in_default.ensures (has n)))

pub returns-clause-notes : goal.returns-clause-notes
returns-clause-notes g c = λ n admitted.
    let a = noted_at (has n) c.args.tables.now c.args.log.now in
    let b = noted_at (has n) c.note_block.new.tables c.note_block.new.log in
    let body = item_at (has n) (plain_item c.args.self.now.body.now) in
    where_also (value (has n) (condition_of c.args.when.now)) _ _ a b (declared_here a b body (before (has n) c.args.parts.now none) (item_at (has n) (plain_item c.in-Some.list.now)) (c.in-Some.ensures (has n)))
    (c.in_ok-note_block.ensures.notes n admitted)
