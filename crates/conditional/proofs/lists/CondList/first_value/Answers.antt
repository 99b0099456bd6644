use Rattle.std.proofs.Common.{not, ◌&&◌, ◌||◌, length, ap, ◌∙◌, arith}
use Rattle.cond_formula.specs.Conditions.{Condition, condition_of, value}
use Rattle.cond_formula.specs.ConditionLaws.{condition_of-False}
use Rattle.conditional.specs.Entries.{listed, alternatives, seen, first}
use Rattle.conditional.proofs.ValueLaws.{first_start, first_value_step}
use Rattle.conditional.proofs.lists.CondList.first_value.Goals as goal

pub loop-entry-init : goal.loop-entry-init
loop-entry-init g c = λ on.
    rw condition_of-False (first_start on (first (seen on (listed g.T.Plain.form c.args.self.now))) (alternatives g.T.Plain.form c.nothing-all.result) (c.nothing-all.ensures on))

pub loop-entry-preserved : goal.loop-entry-preserved
loop-entry-preserved g c = λ on.
    let same = c.deref-entry-items.ensures.value in
    let x = c.entry-item.result in
    first_value_step g.T.Plain.form on c.args.self.now.entries.items x c.loop-entry.entry-index (condition_of c.loop-entry.earlier) (condition_of c.in_ok-earlier.earlier) (condition_of c.in_ok-here.here) (g.T.Plain.form c.in_ok-try_clone-2.field-0)
    (first (seen on (listed g.T.Plain.form c.args.self.now))) (alternatives g.T.Plain.form c.loop-entry.all) (alternatives g.T.Plain.form c.place.new.self)
    (omega (arith, ap length same)) (rw same at c.entry-item.is)
    (c.in_ok-earlier.ensures on ∙ ap (λ (d : Condition). value on (condition_of c.loop-entry.earlier) || value on d) c.in_ok-try_clone-3.ensures)
    (c.in_ok-here.ensures on ∙ ap (λ (d : Condition). value on d && not (value on (condition_of c.loop-entry.earlier))) c.in_ok-try_clone.ensures)
    c.in_ok-try_clone-2.ensures (c.in_ok-place.ensures on) (c.loop-entry.invariant on)
