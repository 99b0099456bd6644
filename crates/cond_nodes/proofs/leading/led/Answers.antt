use Rattle.std.proofs.Common.{◌+◌, drop, refl, ap, ◌∙◌, subst}
use Rattle.std.proofs.lemmas.List.{drop_all}
use Rattle.cond_formula.specs.Features.{has}
use Rattle.cond_formula.specs.Conditions.{condition_of, value}
use Rattle.conditional.proofs.ListLaws.{item_of}
use Rattle.cond_nodes.specs.Leading.{given_by}
use Rattle.cond_nodes.proofs.Led.{LedSoFar, led_start, led_step, led_end}
use Rattle.cond_nodes.proofs.leading.led.Goals as goal

pub loop-x-init : goal.loop-x-init
loop-x-init g c = record {
  kept = refl;
  led = λ n gives v admitted leads carry. led_start (has n) v (given_by g.A.Plain.form gives c.args.xs.now) c.nothing-all.result carry (c.nothing-all.ensures (has n) v);
}

pub loop-x-preserved : goal.loop-x-preserved
loop-x-preserved g c = record {
  kept = c.in_ok-outcomes.ensures.kept ∙ c.loop-x.invariant.kept;
  led = λ n gives v admitted leads carry.
      led_step (has n) v (record { when = condition_of c.x-item.result.when; what = gives (g.A.Plain.form c.x-item.result.what) }) (given_by g.A.Plain.form gives c.args.xs.now)
      (given_by g.A.Plain.form gives (drop (c.loop-x.x-index + 1) c.args.xs.now)) c.in_ok-outcomes.outcomes c.loop-x.all c.place_under.new.self
      (subst (λ rest. LedSoFar (has n) v (given_by g.A.Plain.form gives c.args.xs.now) (given_by g.A.Plain.form gives rest) c.loop-x.all)
      (item_of c.args.xs.now c.x-item.result c.loop-x.x-index c.loop-x-test.true c.x-item.is) (c.loop-x.invariant.led n gives v admitted leads carry))
      (c.in_ok-place_under.ensures (has n))
      (leads.leads_to c.x-item.result.what c.in_ok-outcomes.outcomes (c.in_ok-outcomes.ensures.leads n (ap (value (has n)) c.loop-x.invariant.kept ∙ admitted)));
}

pub returns-clause-shows : goal.returns-clause-shows
returns-clause-shows g c = λ n gives v admitted leads carry.
    led_end (has n) v (given_by g.A.Plain.form gives c.args.xs.now) c.loop-x.all
    (subst (λ rest. LedSoFar (has n) v (given_by g.A.Plain.form gives c.args.xs.now) (given_by g.A.Plain.form gives rest) c.loop-x.all)
    (drop_all c.loop-x.x-index c.args.xs.now c.loop-x-test.false) (c.loop-x.invariant.led n gives v admitted leads carry))
