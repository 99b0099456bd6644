use Rattle.std.proofs.Common.{ap, arith, rules}
use Rattle.c_tree.specs.Trees.{plain_trees}
use Rattle.core_meaning.specs.Checking.{Checked}
use Rattle.core_meaning.specs.UnitNames.{UnitState, judged_file_items}
use Rattle.plain_scope.specs.PlainScope.{uses_of}
use Rattle.plain_scope.specs.Judgements.{RefusedAs}
use Rattle.plain_objects.specs.PlainStates.{plain_state}
use Rattle.plain_units.specs.Items.{items_continue, items_refused, items_done}
use Rattle.plain_units.proofs.items.judge_items.Goals as goal

pub returns-in_err-judge_item : goal.returns-in_err-judge_item
returns-in_err-judge_item c = λ globals.
    let whole : Checked UnitState = judged_file_items globals (plain_state globals c.args.unit.now) (plain_trees c.args.parts.now) in
    let outer : RefusedAs whole c.in_err-judge_item.field-0.0 = items_refused globals whole (plain_state globals c.loop-i.unit) c.args.parts.now c.index-parts-i.result (plain_trees c.behind.result.now) c.loop-i.i (uses_of c.args.used.now) (uses_of c.loop-i.used) c.in_err-judge_item.field-0.0 (omega (arith, c.loop-i.invariant.all)) c.index-parts-i.is (ap plain_trees c.behind.ensures) (c.loop-i.invariant.so_far globals) (c.in_err-judge_item.ensures globals) in
    search (rules, outer)

pub loop-i-preserved : goal.loop-i-preserved
loop-i-preserved c = record {
  all = c.loop-i.invariant.all;
  so_far = λ globals.
      let whole : Checked UnitState = judged_file_items globals (plain_state globals c.args.unit.now) (plain_trees c.args.parts.now) in
      items_continue globals whole (plain_state globals c.loop-i.unit) (plain_state globals c.judge_item.new.unit) c.args.parts.now c.index-parts-i.result (plain_trees c.behind.result.now) c.loop-i.i (uses_of c.args.used.now) (uses_of c.loop-i.used) (uses_of c.judge_item.new.used) (omega (arith, c.loop-i.invariant.all)) c.index-parts-i.is (ap plain_trees c.behind.ensures) (c.loop-i.invariant.so_far globals) (c.in_ok-judge_item.ensures globals);
}

pub returns : goal.returns
returns c = λ globals.
    let whole : Checked UnitState = judged_file_items globals (plain_state globals c.args.unit.now) (plain_trees c.args.parts.now) in
    items_done globals whole (plain_state globals c.loop-i.unit) c.args.parts.now c.loop-i.i (uses_of c.args.used.now) (uses_of c.loop-i.used) (omega (arith, c.loop-i.invariant.all)) (c.loop-i.invariant.so_far globals)
