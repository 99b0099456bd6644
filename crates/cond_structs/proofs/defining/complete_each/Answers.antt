use Rattle.std.proofs.Common.{◌≡◌, ℕ, Bool, ◌&&◌, not, refl, ◌∙◌}
use Rattle.cond_formula.specs.Conditions.{condition_of, value}
use Rattle.c_types.specs.Types.{structure}
use Rattle.type_tables.specs.Seen.{seen_tables}
use Rattle.type_tables.specs.Steps.{with_completed}
use Rattle.cond_structs.specs.Gathered.{gathered}
use Rattle.cond_structs.proofs.Adding.{carried_step}
use Rattle.cond_structs.proofs.Completing.{completing_step, completing_end}
use Rattle.cond_structs.proofs.Outcome.{less_by}
use Rattle.cond_structs.proofs.defining.complete_each.Goals as goal

pub loop-entry-init : goal.loop-entry-init
loop-entry-init c = record { less = λ on e. e; elsewhere = λ on e. refl; completes = λ on n carry. (carry, refl) }

pub loop-entry-preserved : goal.loop-entry-preserved
loop-entry-preserved c =
    let x = c.entry-item.result in
    let here_is : (on : ℕ → Bool) → value on (condition_of c.in_ok-here.here) ≡ (value on (condition_of c.loop-entry.left) && value on (condition_of x.when)) =
    λ on. c.in_ok-here.ensures on in
    record {
      less = λ on e. less_by (value on (condition_of c.loop-entry.left)) (not (value on (condition_of x.when))) (value on (condition_of c.in_ok-left.left)) (c.in_ok-left.ensures on) (c.loop-entry.invariant.less on e);
      elsewhere = λ on e.
          c.in_ok-complete_one.ensures.elsewhere on (less_by (value on (condition_of c.loop-entry.left)) (value on (condition_of x.when)) (value on (condition_of c.in_ok-here.here)) (here_is on) (c.loop-entry.invariant.less on e))
          ∙ c.loop-entry.invariant.elsewhere on e;
      completes = λ on n carry.
          let before = c.loop-entry.invariant.completes on n carry in
          let carried = carried_step on (structure n) c.args.types.now c.loop-entry.entry-index x c.loop-entry-test.true c.entry-item.is before.0 in (
            carried.1,
            completing_step on c.args.types.now (structure n) c.loop-entry.entry-index x (value on (condition_of c.loop-entry.left)) (value on (condition_of c.in_ok-left.left)) (value on (condition_of c.in_ok-here.here))
                (with_completed n (gathered on c.args.all.now).members (gathered on c.args.all.now).scalars) (seen_tables on c.loop-entry.tables) (seen_tables on c.complete_one.new.tables) _
                c.loop-entry-test.true c.entry-item.is carried.0 (here_is on) (c.in_ok-left.ensures on) (c.in_ok-complete_one.ensures.elsewhere on) (λ e. c.in_ok-complete_one.ensures.completes on n e) before.1,
          );
    }

pub returns-clause-completes : goal.returns-clause-completes
returns-clause-completes c = λ on n carry.
    completing_end on c.args.types.now c.loop-entry.entry-index (value on (condition_of c.loop-entry.left)) (with_completed n (gathered on c.args.all.now).members (gathered on c.args.all.now).scalars) (seen_tables on c.loop-entry.tables) _
    c.loop-entry-test.false (c.loop-entry.invariant.completes on n carry).1
