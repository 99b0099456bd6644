use Rattle.std.proofs.Common.{ap, ◌∙◌}
use Rattle.cond_formula.specs.Features.{has}
use Rattle.cond_formula.specs.Conditions.{condition_of, value}
use Rattle.conditional.specs.Entries.{seen, listed}
use Rattle.choice_trees.specs.ChoiceTrees.{plain_item, item_at}
use Rattle.type_tables.specs.Forms.{declared_type_form}
use Rattle.cond_unit_uses.proofs.OneBlock.{block_left, block_noted}
use Rattle.cond_unit_uses.proofs.blocks.note_block.Goals as goal

pub returns-clause-same : goal.returns-clause-same
returns-clause-same g c = λ on.
    block_left on c.args.tables.now c.enter.new.self c.declare_parameters.new.tables c.note_body.new.tables c.leave.new.self c.in_ok-outside.ensures.same c.in_ok-_parameters.ensures.outside c.in_ok-note_body.ensures.outside
    (c.leave.ensures c.args.tables.now c.in_ok-outside.ensures.outside (c.in_ok-note_body.ensures.outside.outside c.args.tables.now (c.in_ok-_parameters.ensures.outside.outside c.args.tables.now c.in_ok-outside.ensures.kept)))

pub returns-clause-notes : goal.returns-clause-notes
returns-clause-notes g c = λ n admitted.
    block_noted (has n) (item_at (has n) (plain_item c.args.list.now)) (item_at (has n) (plain_item c.args.body.now)) (value (has n) (condition_of c.args.when.now)) c.args.tables.now c.enter.new.self c.declare_parameters.new.tables
    c.note_body.new.tables c.leave.new.self c.args.log.now c.note_body.new.log (seen (has n) (listed declared_type_form c.in_ok-_parameters._parameters.types)) (value (has n) (condition_of c.in_ok-_parameters._parameters.refused))
    c.in_ok-outside.ensures.same (c.in_ok-outside.ensures.seen (has n)) c.in_ok-_parameters.ensures.outside c.in_ok-note_body.ensures.outside
    (c.leave.ensures c.args.tables.now c.in_ok-outside.ensures.outside (c.in_ok-note_body.ensures.outside.outside c.args.tables.now (c.in_ok-_parameters.ensures.outside.outside c.args.tables.now c.in_ok-outside.ensures.kept)))
    (λ here by scope name follows is_list. c.in_ok-_parameters.ensures.declared n by scope name admitted here follows is_list) (c.in_ok-note_body.ensures.notes n (ap (value (has n)) c.in_ok-_parameters.ensures.kept ∙ admitted))
