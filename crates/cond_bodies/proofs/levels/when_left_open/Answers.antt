use Rattle.std.proofs.Common.{Bool, if◌then◌else◌, ap, ◌∙◌, arith}
use Rattle.c_text.specs.Macros as spec
use Rattle.cond_formula.specs.Features.{has}
use Rattle.cond_formula.specs.Conditions.{condition_of, value}
use Rattle.cond_formula.specs.ConditionLaws.{condition_of-False}
use Rattle.macro_table.specs.Features.{macros_at}
use Rattle.cond_bodies.specs.CondItems.{items_at}
use Rattle.cond_bodies.proofs.LevelLemmas.{ends_is, ends_step, ends_end}
use Rattle.cond_bodies.proofs.levels.when_left_open.Goals as goal

pub loop-entry-init : goal.loop-entry-init
loop-entry-init c = λ n. rw condition_of-False (ends_is (macros_at (has n) c.args.macros.now) (items_at (has n) c.args.items.now))

pub loop-entry-preserved : goal.loop-entry-preserved
loop-entry-preserved c = λ n.
    let table = macros_at (has n) c.args.macros.now in
    ends_step table (has n) c.args.items.now c.entry-item.result c.loop-entry.entry-index (value (has n) (condition_of c.loop-entry.left_open)) (value (has n) (condition_of c.in_ok-left_open.left_open)) (spec.ends_in_function table (items_at (has n) c.args.items.now))
    c.loop-entry-test.true c.entry-item.is
    (c.in_ok-left_open.ensures (has n) ∙ ap (λ (b : Bool). if value (has n) (condition_of c.entry-item.result.when) then b else value (has n) (condition_of c.loop-entry.left_open)) (c.in_ok-function.ensures n))
    (c.loop-entry.invariant n)

pub returns : goal.returns
returns c = λ n.
    let table = macros_at (has n) c.args.macros.now in
    ends_end table (has n) c.args.items.now c.loop-entry.entry-index (value (has n) (condition_of c.loop-entry.left_open)) (spec.ends_in_function table (items_at (has n) c.args.items.now)) (omega arith) (c.loop-entry.invariant n)
