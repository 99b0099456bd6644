use Rattle.std.proofs.Common.{rules}
use Rattle.std.proofs.lemmas.Result.{MatchResult-weaker}
use Rattle.c_tree.specs.Trees.{PlainTrees, plain_trees}
use Rattle.core_meaning.specs.UnitNames.{UnitState, judged_to_end}
use Rattle.plain_scope.specs.PlainScope.{uses_of}
use Rattle.plain_scope.specs.Judgements.{RefusedAs}
use Rattle.plain_objects.specs.PlainStates.{plain_state}
use Rattle.plain_units.specs.Ends.{to_end_gives, to_end_refused, items_refused}
use Rattle.plain_units.proofs.units.judge_to_end.Goals as goal

pub returns-in_err-judge_items : goal.returns-in_err-judge_items
returns-in_err-judge_items c = λ globals.
    let outer : RefusedAs (judged_to_end globals (plain_state globals c.args.unit.now) (plain_trees c.args.parts.now)) c.in_err-judge_items.field-0.0 = items_refused globals (plain_state globals c.args.unit.now) (plain_trees c.args.parts.now) c.in_err-judge_items.field-0.0 (c.in_err-judge_items.ensures globals) in
    search (rules, outer)

pub returns : goal.returns
returns c = λ globals.
    let start : UnitState = plain_state globals c.args.unit.now in
    let unit : UnitState = plain_state globals c.judge_items.new.unit in
    let parts : PlainTrees = plain_trees c.args.parts.now in
    MatchResult-weaker c.judge_sizes.result c.judge_sizes.ensures
    (λ u is. to_end_gives globals start unit parts (uses_of c.args.used.now) (uses_of c.judge_items.new.used) (c.in_ok-judge_items.ensures globals) is)
    (λ error r. to_end_refused globals start unit parts (uses_of c.args.used.now) (uses_of c.judge_items.new.used) error (c.in_ok-judge_items.ensures globals) r)
