use Rattle.std.proofs.Common.{refl, sym, ap, ◌∙◌, subst}
use Rattle.cond_formula.specs.Features.{has}
use Rattle.cond_formula.specs.Conditions.{value}
use Rattle.choice_expansions.specs.Expansions.{plain_expansion}
use Rattle.choice_expansions.proofs.StepByStep.{one_step, no_step}
use Rattle.choice_expansions.proofs.stepping.step_on_each.Goals as goal

pub loop-expansion-init : goal.loop-expansion-init
loop-expansion-init g c = record { kept = refl; so_far = λ n m admitted means. (m, means, refl) }

pub loop-expansion-preserved : goal.loop-expansion-preserved
loop-expansion-preserved g c = record {
  kept = c.in_ok-step.ensures.kept ∙ c.loop-expansion.invariant.kept;
  so_far = λ n m admitted means.
      let h = c.loop-expansion.invariant.so_far n m admitted means in (
        _,
        c.in_ok-step.ensures.steps n h.0 (ap (value (has n)) c.loop-expansion.invariant.kept ∙ admitted) h.1,
        h.2 ∙ one_step (has n) g.S.StepOnTree.next plain_expansion c.args.all.now c.loop-expansion.expansion-index c.expansion-item.result h.0 c.loop-expansion-test.true c.expansion-item.is,
      );
}

pub returns-clause-steps : goal.returns-clause-steps
returns-clause-steps g c = λ n m admitted means.
    let h = c.loop-expansion.invariant.so_far n m admitted means in
    subst (λ now. g.S.StepOnTree.means c.loop-expansion.state n now)
    (sym (h.2 ∙ no_step (has n) g.S.StepOnTree.next plain_expansion c.args.all.now c.loop-expansion.expansion-index h.0 c.loop-expansion-test.false)) h.1
