use Rattle.std.proofs.Common.{◌≡◌, ◌+◌, ◌<◌, ◌≤◌, drop, length, rules, ap, sym, ◌∙◌}
use Rattle.std.proofs.lemmas.List.{drop-drop}
use Rattle.c_types.specs.Types.{PlainType, plain_type}
use Rattle.c_tree.specs.Trees.{PlainTrees, plain_trees}
use Rattle.core_meaning.specs.Checking.{Checked}
use Rattle.core_meaning.specs.UnitNames.{UnitState, Storage, declared_from}
use Rattle.plain_scope.specs.PlainScope.{uses_of}
use Rattle.plain_scope.specs.Judgements.{RefusedAs}
use Rattle.plain_declarations.specs.Locals.{first_size}
use Rattle.plain_objects.specs.PlainStates.{plain_state, plain_storage}
use Rattle.plain_structs.specs.Leading.{Leads, leads_from}
use Rattle.plain_units.proofs.Declarators.{declared_continue, declared_end, declared_refused}
use Rattle.plain_units.proofs.declarations.declare_from.Goals as goal

pub loop-place-init : goal.loop-place-init
loop-place-init c = record {
  so_far = λ globals. leads_from (declared_from globals (plain_state globals c.args.unit.now) (plain_storage c.args.storage) (plain_type c.args.base.now) (plain_trees c.args.list.now) (plain_trees c.args.rest.now)) (uses_of c.args.used.now);
}

pub returns-in_err-size : goal.returns-in_err-size
returns-in_err-size c = λ globals.
    let storage : Storage = plain_storage c.args.storage in
    let ty : PlainType = plain_type c.args.base.now in
    let rest : PlainTrees = plain_trees c.args.rest.now in
    let left = c.split_at.result.1.now in
    let whole : Checked UnitState = declared_from globals (plain_state globals c.args.unit.now) storage ty (plain_trees c.args.list.now) rest in
    let so_far : Leads whole (declared_from globals (plain_state globals c.loop-place.unit) storage ty (plain_trees left) rest) (uses_of c.args.used.now) (uses_of c.loop-place.used) = rw c.split_at.ensures.back (c.loop-place.invariant.so_far globals) in
    let outer : RefusedAs whole c.in_err-size.field-0.0 = declared_refused globals whole (plain_state globals c.loop-place.unit) storage ty left rest (uses_of c.args.used.now) (uses_of c.loop-place.used) c.in_err-size.field-0.0 so_far (c.in_err-size.ensures.judged globals) in
    search (rules, outer)

pub returns-then-left-size : goal.returns-then-left-size
returns-then-left-size c = λ globals.
    let storage : Storage = plain_storage c.args.storage in
    let ty : PlainType = plain_type c.args.base.now in
    let rest : PlainTrees = plain_trees c.args.rest.now in
    let left = c.split_at.result.1.now in
    let whole : Checked UnitState = declared_from globals (plain_state globals c.args.unit.now) storage ty (plain_trees c.args.list.now) rest in
    let so_far : Leads whole (declared_from globals (plain_state globals c.loop-place.unit) storage ty (plain_trees left) rest) (uses_of c.args.used.now) (uses_of c.loop-place.used) = rw c.split_at.ensures.back (c.loop-place.invariant.so_far globals) in
    let over : length left ≤ first_size (plain_trees left) = rw (sym c.in_ok-size.ensures.size) c.if-left-size.true in
    declared_end globals whole (plain_state globals c.loop-place.unit) (plain_state globals c.declare_first.new.unit) storage ty left rest (uses_of c.args.used.now) (uses_of c.loop-place.used) (uses_of c.declare_first.new.used) over so_far (c.in_ok-size.ensures.judged globals)

pub loop-place-preserved : goal.loop-place-preserved
loop-place-preserved c =
    let left = c.split_at.result.1.now in
    let size = c.in_ok-size.size in
    let inside : first_size (plain_trees left) < length left = rw (sym c.in_ok-size.ensures.size) c.if-left-size.false in
    let behind : drop (c.loop-place.place + (size + 1)) c.args.list.now ≡ drop (first_size (plain_trees left) + 1) left = sym (drop-drop (size + 1) c.loop-place.place c.args.list.now) ∙ ap (drop (size + 1)) (sym c.split_at.ensures.back) ∙ ap (λ n. drop (n + 1) left) c.in_ok-size.ensures.size in
    record {
      so_far = λ globals.
          let storage : Storage = plain_storage c.args.storage in
          let ty : PlainType = plain_type c.args.base.now in
          let rest : PlainTrees = plain_trees c.args.rest.now in
          let whole : Checked UnitState = declared_from globals (plain_state globals c.args.unit.now) storage ty (plain_trees c.args.list.now) rest in
          let so_far : Leads whole (declared_from globals (plain_state globals c.loop-place.unit) storage ty (plain_trees left) rest) (uses_of c.args.used.now) (uses_of c.loop-place.used) = rw c.split_at.ensures.back (c.loop-place.invariant.so_far globals) in
          rw behind (declared_continue globals whole (plain_state globals c.loop-place.unit) (plain_state globals c.declare_first.new.unit) storage ty left rest (uses_of c.args.used.now) (uses_of c.loop-place.used) (uses_of c.declare_first.new.used) inside so_far (c.in_ok-size.ensures.judged globals));
    }
