use Rattle.std.proofs.Common.{ℕ, ap, ◌∙◌}
use Rattle.cond_formula.specs.Conditions.{condition_of}
use Rattle.conditional.specs.Judgements.{checked}
use Rattle.core_meaning.specs.Constancy.{judged_count}
use Rattle.operand_types.specs.OperandTypes.{outcome_as}
use Rattle.operand_rules.specs.PlainOperandTypes.{reason}
use Rattle.choice_expansions.specs.Expansions.{plain_expansion}
use Rattle.cond_sizes.specs.Sizes.{plain_count}
use Rattle.cond_sizes.proofs.Placing.{placed_start, placed_next, placed_end, by_outcome}
use Rattle.cond_sizes.proofs.sizes.counts_of.Goals as goal

pub loop-expansion-init : goal.loop-expansion-init
loop-expansion-init c = λ on tree stands visible other.
    placed_start on plain_expansion c.args.expansions.now tree (outcome_as (λ (n : ℕ). n) (judged_count visible tree other)) c.nothing-all.result stands
    (c.nothing-all.ensures on (outcome_as (λ (n : ℕ). n) (judged_count visible tree other)))

pub loop-expansion-preserved : goal.loop-expansion-preserved
loop-expansion-preserved c = λ on tree stands visible other.
    placed_next on plain_expansion c.args.expansions.now tree (outcome_as (λ (n : ℕ). n) (judged_count visible tree other)) c.loop-expansion.expansion-index c.expansion-item.result
    c.loop-expansion.all c.place.new.self c.loop-expansion-test.true c.expansion-item.is
    (by_outcome on (plain_expansion c.expansion-item.result) tree (outcome_as (λ (n : ℕ). n) (judged_count visible tree other)) (condition_of c.in_ok-try_clone.field-0)
    (checked plain_count reason c.in_ok-count.count) c.loop-expansion.all c.place.new.self c.in_ok-try_clone.ensures
    (λ same. c.in_ok-count.ensures visible other ∙ ap (λ t. outcome_as (λ (n : ℕ). n) (judged_count visible t other)) same) (c.in_ok-place.ensures on))
    (c.loop-expansion.invariant on tree stands visible other)

pub returns : goal.returns
returns c = λ on tree stands visible other.
    placed_end on plain_expansion c.args.expansions.now tree (outcome_as (λ (n : ℕ). n) (judged_count visible tree other)) c.loop-expansion.expansion-index c.loop-expansion.all
    c.loop-expansion-test.false (c.loop-expansion.invariant on tree stands visible other)
