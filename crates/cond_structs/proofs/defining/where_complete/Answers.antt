use Rattle.std.proofs.Common.{◌&&◌, ◌||◌, ap}
use Rattle.cond_formula.specs.Conditions.{condition_of, value}
use Rattle.cond_formula.specs.ConditionLaws.{condition_of-False}
use Rattle.conditional.specs.Entries.{some_holds, entries_of}
use Rattle.type_tables.specs.Tables.{is_complete_type}
use Rattle.type_tables.specs.Forms.{declared_type_form}
use Rattle.type_tables.specs.Seen.{seen_tables}
use Rattle.cond_structs.proofs.Adding.{carried_step}
use Rattle.cond_structs.proofs.Completing.{complete_step, complete_end}
use Rattle.cond_structs.proofs.defining.where_complete.Goals as goal

pub loop-entry-init : goal.loop-entry-init
loop-entry-init c = λ on ty carry. (
  carry,
  ap (λ f. value on f || (some_holds on (entries_of declared_type_form c.args.types.now) && is_complete_type (seen_tables on c.args.tables.now) ty)) condition_of-False,
)

pub loop-entry-preserved : goal.loop-entry-preserved
loop-entry-preserved c = λ on ty carry.
    let x = c.entry-item.result in
    let before = c.loop-entry.invariant on ty carry in
    let carried = carried_step on ty c.args.types.now c.loop-entry.entry-index x c.loop-entry-test.true c.entry-item.is before.0 in (
      carried.1,
      complete_step on c.args.types.now ty (is_complete_type (seen_tables on c.args.tables.now)) c.loop-entry.entry-index x (value on (condition_of c.loop-entry.found)) (value on (condition_of c.in_ok-found.found)) _
          c.loop-entry-test.true c.entry-item.is carried.0 (c.in_ok-found.ensures on) before.1,
    )

pub returns : goal.returns
returns c = λ on ty carry.
    complete_end on c.args.types.now (is_complete_type (seen_tables on c.args.tables.now) ty) c.loop-entry.entry-index (value on (condition_of c.loop-entry.found)) _ c.loop-entry-test.false (c.loop-entry.invariant on ty carry).1
