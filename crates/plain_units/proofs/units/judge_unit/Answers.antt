use Rattle.std.proofs.Common.{map, rules}
use Rattle.c_tree.specs.Trees.{plain_tree}
use Rattle.core_meaning.specs.Checking.{Checked}
use Rattle.core_meaning.specs.Linking.{closed}
use Rattle.core_meaning.specs.UnitNames.{UnitState, judged_unit}
use Rattle.plain_scope.specs.PlainScope.{plain_struct, uses_of}
use Rattle.plain_scope.specs.Judgements.{RefusedAs}
use Rattle.plain_objects.specs.PlainStates.{plain_state}
use Rattle.plain_units.specs.Closing.{plain_numbers, one_judged, closed_gives, closed_refused}
use Rattle.plain_units.proofs.units.judge_unit.Goals as goal

pub returns-in_err-unit : goal.returns-in_err-unit
returns-in_err-unit c = λ globals.
    let judged : Checked UnitState = judged_unit globals (map plain_struct c.args.structs.items) (plain_numbers c.args.numbers.now c.args.texts.now) (plain_tree c.args.tree.now) in
    let outer : RefusedAs (closed judged) c.in_err-unit.field-0.0 = closed_refused judged c.in_err-unit.field-0.0 (c.in_err-unit.ensures globals) in
    search (rules, outer)

pub returns : goal.returns
returns c = λ globals.
    let judged : Checked UnitState = judged_unit globals (map plain_struct c.args.structs.items) (plain_numbers c.args.numbers.now c.args.texts.now) (plain_tree c.args.tree.now) in
    closed_gives judged (plain_state globals c.in_ok-unit.unit) (uses_of c.new-used.result) (uses_of c.judge_all.new.used) (one_judged globals c.in_ok-left.left) c.new-used.ensures (c.in_ok-unit.ensures globals) (c.in_ok-left.ensures globals)
