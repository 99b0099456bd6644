use Rattle.std.proofs.Common.{◌||◌, ap}
use Rattle.std.specs.Prelude.{is_some}
use Rattle.cond_formula.specs.Conditions.{condition_of, value}
use Rattle.cond_formula.specs.ConditionLaws.{condition_of-False}
use Rattle.conditional.specs.Entries.{seen, entries_of}
use Rattle.type_tables.specs.Forms.{member_form}
use Rattle.type_tables.specs.Tables.{member_named}
use Rattle.cond_structs.proofs.Adding.{named_step, named_end}
use Rattle.cond_structs.proofs.collecting.where_named.Goals as goal

pub loop-entry-init : goal.loop-entry-init
loop-entry-init c = λ on. ap (λ x. value on x || is_some (member_named (seen on (entries_of member_form c.args.members.now)) c.args.name.now)) condition_of-False

pub loop-entry-preserved : goal.loop-entry-preserved
loop-entry-preserved c = λ on.
    named_step on c.args.members.now c.loop-entry.entry-index c.entry-item.result c.args.name.now (value on (condition_of c.loop-entry.found)) (value on (condition_of c.in_ok-found.found))
    (is_some (member_named (seen on (entries_of member_form c.args.members.now)) c.args.name.now)) c.loop-entry-test.true c.entry-item.is (c.loop-entry.invariant on) (c.in_ok-found.ensures on)

pub returns : goal.returns
returns c = λ on.
    named_end on c.args.members.now c.loop-entry.entry-index c.args.name.now (value on (condition_of c.loop-entry.found))
    (is_some (member_named (seen on (entries_of member_form c.args.members.now)) c.args.name.now)) c.loop-entry-test.false (c.loop-entry.invariant on)
