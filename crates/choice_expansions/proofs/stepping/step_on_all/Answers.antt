use Rattle.std.proofs.Common.{if◌then◌else◌, refl, sym, ap, ◌∙◌, subst}
use Rattle.cond_formula.specs.Features.{has}
use Rattle.cond_formula.specs.Conditions.{condition_of, value}
use Rattle.choice_variants.specs.Variants.{before, variant_before}
use Rattle.c_tree.specs.Trees.{none}
use Rattle.choice_expansions.proofs.StepByStep.{one_step, no_step}
use Rattle.choice_expansions.proofs.stepping.step_on_all.Goals as goal

pub loop-variant-init : goal.loop-variant-init
loop-variant-init g c = record { kept = refl; so_far = λ n m admitted means. (m, means, refl) }

pub loop-variant-preserved : goal.loop-variant-preserved
loop-variant-preserved g c = record {
  kept = c.in_ok-step.ensures.kept ∙ c.loop-variant.invariant.kept;
  so_far = λ n m admitted means.
      let h = c.loop-variant.invariant.so_far n m admitted means in (
        _,
        subst (λ parts. g.S.StepOnParts.means c.step.new.self n (if value (has n) (condition_of c.variant-item.result.when) then g.S.StepOnParts.next h.0 (before (has n) parts none) else h.0))
            c.deref.ensures.value (c.in_ok-step.ensures.steps n h.0 (ap (value (has n)) c.loop-variant.invariant.kept ∙ admitted) h.1),
        h.2 ∙ one_step (has n) g.S.StepOnParts.next (variant_before (has n) none) c.args.all.now c.loop-variant.variant-index c.variant-item.result h.0 c.loop-variant-test.true c.variant-item.is,
      );
}

pub returns-clause-steps : goal.returns-clause-steps
returns-clause-steps g c = λ n m admitted means.
    let h = c.loop-variant.invariant.so_far n m admitted means in
    subst (λ now. g.S.StepOnParts.means c.loop-variant.state n now)
    (sym (h.2 ∙ no_step (has n) g.S.StepOnParts.next (variant_before (has n) none) c.args.all.now c.loop-variant.variant-index h.0 c.loop-variant-test.false)) h.1
