use Rattle.std.proofs.Common.{ap}
use Rattle.cond_formula.specs.Conditions.{condition_of, value}
use Rattle.conditional.proofs.ListLaws.{first_widened}
use Rattle.conditional.proofs.lists.CondList.push_otherwise.Goals as goal

pub returns-then-is_same : goal.returns-then-is_same
returns-then-is_same g c = λ on.
    first_widened g.T.Plain.form on c.in-Some.last c.in_ok-widened.field-0 (value on (condition_of c.args.when)) (g.T.Plain.form c.args.what)
    c.pop.new.self.items c.args.self.now.entries.items c.push-then-is_same.new.self.items
    c.in-Some.ensures.items c.in_ok-push-2.ensures.items (ap g.T.Plain.form c.in_ok-widened.ensures.same) (c.is_same.ensures c.if-is_same.true) (c.in_ok-widened.ensures.wider.holds on)
