use Rattle.std.proofs.Common.{true, refl, length, ap, arith, ◌∙◌}
use Rattle.cond_formula.specs.Features.{has}
use Rattle.cond_formula.specs.Conditions.{Condition, condition_of, value}
use Rattle.conditional.specs.Entries.{alternatives}
use Rattle.conditional.proofs.ListLaws.{with_true}
use Rattle.conditional.proofs.ValueLaws.{placed_start, placed_step, placed_all, copied}
use Rattle.conditional.proofs.values.CondValue.pruned.Goals as goal

pub loop-alternative-init : goal.loop-alternative-init
loop-alternative-init g c = record { kept = refl; placed = λ n admitted. placed_start (has n) true (alternatives g.T.Plain.form c.args.self.now) (alternatives g.T.Plain.form c.nothing-possible.result) }

pub loop-alternative-preserved : goal.loop-alternative-preserved
loop-alternative-preserved g c =
    let equal = c.deref-alternative-items.ensures.value in
    record {
      kept = c.in_ok-place_possible.ensures.kept ∙ c.loop-alternative.invariant.kept;
      placed = λ n admitted.
          placed_step g.T.Plain.form (has n) true (condition_of c.in_ok-when.when) c.args.self.now.alternatives.items c.alternative-item.result c.loop-alternative.alternative-index (g.T.Plain.form c.in_ok-what.what)
          (alternatives g.T.Plain.form c.nothing-possible.result) (alternatives g.T.Plain.form c.loop-alternative.possible) (alternatives g.T.Plain.form c.place_possible.new.self)
          (omega (arith, ap length equal)) (rw equal at c.alternative-item.is)
          (ap (λ (k : Condition). value (has n) k) c.in_ok-when.ensures ∙ with_true (value (has n) (condition_of c.alternative-item.result.when))) c.in_ok-what.ensures
          (c.loop-alternative.invariant.placed n admitted) (c.in_ok-place_possible.ensures.places n (rw c.loop-alternative.invariant.kept admitted));
    }

pub returns-clause-same : goal.returns-clause-same
returns-clause-same g c = λ n admitted o s.
    let equal = c.deref-alternative-items.ensures.value in
    copied (has n) (alternatives g.T.Plain.form c.args.self.now) (alternatives g.T.Plain.form c.nothing-possible.result) (alternatives g.T.Plain.form c.loop-alternative.possible) (c.nothing-possible.ensures (has n))
    (placed_all g.T.Plain.form (has n) true c.args.self.now.alternatives.items c.loop-alternative.alternative-index _ _ (omega (arith, ap length equal)) (c.loop-alternative.invariant.placed n admitted)) o s
