use Rattle.std.proofs.Common.{true, refl, length, ap, arith, ◌∙◌}
use Rattle.cond_formula.specs.Features.{has}
use Rattle.cond_formula.specs.Conditions.{condition_of, value}
use Rattle.conditional.specs.Entries.{listed, seen}
use Rattle.conditional.proofs.ListLaws.{copied_step, copied_end, with_true}
use Rattle.conditional.proofs.lists.CondList.pruned.Goals as goal

pub loop-entry-preserved : goal.loop-entry-preserved
loop-entry-preserved g c =
    let equal = c.deref-entry-items.ensures.value in
    record {
      kept = c.in_ok-push_possible.ensures.kept ∙ c.loop-entry.invariant.kept;
      same = λ n admitted.
          copied_step g.T.Plain.form (has n) true (value (has n) (condition_of c.entry-item.result.when)) c.args.self.now.entries.items c.entry-item.result c.loop-entry.entry-index (g.T.Plain.form c.entry-item.result.what)
          (seen (has n) (listed g.T.Plain.form c.loop-entry.possible)) (seen (has n) (listed g.T.Plain.form c.push_possible.new.self)) (seen (has n) (listed g.T.Plain.form c.args.self.now))
          (omega (arith, ap length equal)) (rw equal at c.entry-item.is) (with_true (value (has n) (condition_of c.entry-item.result.when))) refl (c.loop-entry.invariant.same n admitted)
          (c.in_ok-push_possible.ensures.same n (rw c.loop-entry.invariant.kept admitted));
    }

pub returns-clause-same : goal.returns-clause-same
returns-clause-same g c = λ n admitted.
    let equal = c.deref-entry-items.ensures.value in
    copied_end g.T.Plain.form (has n) true c.args.self.now.entries.items c.loop-entry.entry-index
    (seen (has n) (listed g.T.Plain.form c.loop-entry.possible)) (seen (has n) (listed g.T.Plain.form c.args.self.now)) (omega (arith, ap length equal)) (c.loop-entry.invariant.same n admitted)
