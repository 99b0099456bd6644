use Rattle.std.proofs.Common.{rules, sym}
use Rattle.conditional.proofs.ValueLaws.{placed_new}
use Rattle.conditional.proofs.values.CondValue.place.Goals as goal

pub returns-in_ok-widen-in-Some : goal.returns-in_ok-widen-in-Some
returns-in_ok-widen-in-Some g c = λ on.
    let found = rw c.deref.ensures.value at c.in-Some.ensures.1 in
    c.in_ok-widen-in-Some.ensures (g.T.Plain.form c.args.what) c.in-Some.ensures.0 found (sym c.in-Some.ensures.2) on

pub returns-in_ok-push-in-None : goal.returns-in_ok-push-in-None
returns-in_ok-push-in-None g c = λ on. placed_new g.T.Plain.form on (record { when = c.args.when; what = c.args.what }) c.args.self.now.alternatives.items c.push.new.self.items (search rules)
