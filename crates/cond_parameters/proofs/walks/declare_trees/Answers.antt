use Rattle.std.proofs.Common.{refl, sym, ap, ◌∙◌, subst}
use Rattle.cond_formula.specs.Features.{has}
use Rattle.cond_formula.specs.Conditions.{condition_of, value}
use Rattle.conditional.specs.Entries.{seen, listed}
use Rattle.choice_expansions.specs.Expansions.{plain_expansion}
use Rattle.choice_expansions.proofs.StepByStep.{one_step, no_step}
use Rattle.type_tables.specs.Forms.{declared_type_form}
use Rattle.type_tables.specs.Seen.{seen_tables}
use Rattle.cond_parameters.specs.Parameters.{Declares}
use Rattle.cond_parameters.specs.Readings.{Reading, nothing_read, goes_on}
use Rattle.type_tables.proofs.LocalsAlone.{nothing_changed, locals_again}
use Rattle.cond_parameters.proofs.Seeing.{same_state, next_unseen}
use Rattle.cond_parameters.proofs.Steps.{nothing_shown}
use Rattle.cond_parameters.proofs.walks.declare_trees.Goals as goal

pub loop-expansion-init : goal.loop-expansion-init
loop-expansion-init g c = record {
  kept = refl;
  outside = nothing_changed c.args.tables.now;
  unseen = λ n admitted none. (
    none,
    same_state _ _ _ _ _ _ (c.no_parameters-all.ensures.types (has n)) (c.no_parameters-all.ensures.refused (has n)) refl,
  );
  shown = λ n by scope behind admitted f. (
    nothing_read,
    nothing_shown by scope _ _ _ _ _ (c.nothing-stood.ensures.some (has n)) (c.nothing-stood.ensures.void (has n)) (c.no_parameters-all.ensures.types (has n)) (c.no_parameters-all.ensures.refused (has n)) f,
    refl,
  );
}

pub loop-expansion-preserved : goal.loop-expansion-preserved
loop-expansion-preserved g c = record {
  kept = c.in_ok-declare_tree.ensures.kept ∙ c.loop-expansion.invariant.kept;
  outside = locals_again c.args.tables.now c.loop-expansion.tables c.declare_tree.new.tables c.loop-expansion.invariant.outside c.in_ok-declare_tree.ensures.outside;
  unseen = λ n admitted none.
      let before = c.loop-expansion.invariant.unseen n admitted none in
      let next = next_unseen (has n) plain_expansion c.args.trees.now c.loop-expansion.expansion-index c.expansion-item.result c.loop-expansion-test.true c.expansion-item.is before.0 in
      (next.1, c.in_ok-declare_tree.ensures.elsewhere n (ap (value (has n)) c.loop-expansion.invariant.kept ∙ admitted) next.0 ∙ before.1);
  shown = λ n by scope behind admitted f.
      let h = c.loop-expansion.invariant.shown n by scope behind admitted f in (
        _,
        c.in_ok-declare_tree.ensures.declares n by scope behind h.0 (ap (value (has n)) c.loop-expansion.invariant.kept ∙ admitted) h.1,
        h.2 ∙ one_step (has n) (goes_on c.args.defining scope behind) plain_expansion c.args.trees.now c.loop-expansion.expansion-index c.expansion-item.result h.0 c.loop-expansion-test.true c.expansion-item.is,
      );
}

pub returns-clause-outside : goal.returns-clause-outside
returns-clause-outside g c = c.loop-expansion.invariant.outside

pub returns-clause-elsewhere : goal.returns-clause-elsewhere
returns-clause-elsewhere g c = λ n admitted none. (c.loop-expansion.invariant.unseen n admitted none).1

pub returns-clause-declares : goal.returns-clause-declares
returns-clause-declares g c = λ n by scope behind admitted f.
    let h = c.loop-expansion.invariant.shown n by scope behind admitted f in
    subst
    (λ (now : Reading). Declares by scope now.parameters (seen (has n) (listed declared_type_form c.loop-expansion.all.types)) (value (has n) (condition_of c.loop-expansion.all.refused)) (seen_tables (has n) c.loop-expansion.tables))
    (sym (h.2 ∙ no_step (has n) (goes_on c.args.defining scope behind) plain_expansion c.args.trees.now c.loop-expansion.expansion-index h.0 c.loop-expansion-test.false)) h.1.declares
