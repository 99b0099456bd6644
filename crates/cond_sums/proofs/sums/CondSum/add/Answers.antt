use Rattle.std.proofs.Common.{rules, refl, ap}
use Rattle.cond_formula.specs.Conditions.{condition_of, value}
use Rattle.cond_sums.proofs.Parts.{sum_joined, sum_pushed}
use Rattle.cond_sums.proofs.sums.CondSum.add.Goals as goal

pub returns-then-is_same : goal.returns-then-is_same
returns-then-is_same c = λ on.
    sum_joined on c.pop.new.self.items c.args.self.now.parts.items c.push-then-is_same.new.self.items c.in-Some.last (record { when = c.args.when; count = c.sum-count.result }) (value on (condition_of c.args.when)) c.args.count
    c.in-Some.ensures.items c.in_ok-push-2.ensures.items (ap (value on) (c.is_same.ensures c.if-is_same.true)) refl c.sum-count.ensures

pub returns : goal.returns
returns c = λ on.
    sum_pushed on c.pop.new.self.items c.args.self.now.parts.items c.push-3.new.self.items c.in-Some.last (record { when = c.args.when; count = c.args.count })
    c.in-Some.ensures.items (search rules)
