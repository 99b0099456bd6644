use Rattle.std.proofs.Common.{◌≡◌, ℕ, Bool, ◌&&◌, not, ap, ◌∙◌}
use Rattle.std.specs.Prelude.{if◌then◌else◌}
use Rattle.cond_formula.specs.Conditions.{Condition, condition_of, value}
use Rattle.conditional.specs.Entries.{some_holds, entries_of}
use Rattle.type_tables.specs.Forms.{declared_type_form}
use Rattle.type_tables.specs.Seen.{seen_tables}
use Rattle.cond_structs.specs.Gathered.{gathered, with_type}
use Rattle.cond_structs.proofs.Adding.{carried_step, adding_step, adding_end}
use Rattle.cond_structs.proofs.Outcome.{keeps_nothing, keeps_both, keeps_added, less_by}
use Rattle.cond_structs.proofs.collecting.Gathering.add_first.Goals as goal

pub loop-entry-init : goal.loop-entry-init
loop-entry-init c = record {
  less = λ on e. ap (value on) c.in_ok-left.ensures ∙ e;
  keeps = λ on. keeps_nothing (value on (condition_of c.args.here.now)) (gathered on c.args.self.now);
  adds = λ on ty carry. (
    carry,
    ap (λ (f : Condition). if value on f && some_holds on (entries_of declared_type_form c.args.types.now) then with_type (seen_tables on c.args.tables.now) c.args.name.now ty (gathered on c.args.self.now) else gathered on c.args.self.now)
        c.in_ok-left.ensures,
  );
}

pub loop-entry-preserved : goal.loop-entry-preserved
loop-entry-preserved c =
    let x = c.entry-item.result in
    let when_is : (on : ℕ → Bool) → value on (condition_of c.in_ok-when.when) ≡ (value on (condition_of c.loop-entry.left) && value on (condition_of x.when)) =
    λ on. c.in_ok-when.ensures on in
    record {
      less = λ on e. less_by (value on (condition_of c.loop-entry.left)) (not (value on (condition_of x.when))) (value on (condition_of c.in_ok-left-2.left)) (c.in_ok-left-2.ensures on) (c.loop-entry.invariant.less on e);
      keeps = λ on.
          keeps_both (value on (condition_of c.args.here.now)) (gathered on c.args.self.now) (gathered on c.loop-entry.self) (gathered on c.add.new.self) (c.loop-entry.invariant.keeps on)
          (keeps_added (seen_tables on c.args.tables.now) c.args.name.now (declared_type_form x.what) (value on (condition_of c.args.here.now)) (value on (condition_of c.in_ok-when.when)) (gathered on c.loop-entry.self) (gathered on c.add.new.self)
          (λ e. less_by (value on (condition_of c.loop-entry.left)) (value on (condition_of x.when)) (value on (condition_of c.in_ok-when.when)) (when_is on) (c.loop-entry.invariant.less on e))
          (c.in_ok-add.ensures on));
      adds = λ on ty carry.
          let before = c.loop-entry.invariant.adds on ty carry in
          let carried = carried_step on ty c.args.types.now c.loop-entry.entry-index x c.loop-entry-test.true c.entry-item.is before.0 in (
            carried.1,
            adding_step on ty c.args.types.now (with_type (seen_tables on c.args.tables.now) c.args.name.now) c.loop-entry.entry-index x (value on (condition_of c.loop-entry.left)) (value on (condition_of c.in_ok-when.when))
                (value on (condition_of c.in_ok-left-2.left)) (gathered on c.loop-entry.self) (gathered on c.add.new.self) _ c.loop-entry-test.true c.entry-item.is carried.0 (when_is on) (c.in_ok-left-2.ensures on) (c.in_ok-add.ensures on) before.1,
          );
    }

pub returns-clause-adds : goal.returns-clause-adds
returns-clause-adds c = λ on ty carry.
    adding_end on ty c.args.types.now (with_type (seen_tables on c.args.tables.now) c.args.name.now) c.loop-entry.entry-index (value on (condition_of c.loop-entry.left)) (gathered on c.loop-entry.self)
    _ c.loop-entry-test.false (c.loop-entry.invariant.adds on ty carry).1
