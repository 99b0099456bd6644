use Rattle.std.proofs.Common.{false, refl, ap, ◌∙◌, subst}
use Rattle.cond_formula.specs.Features.{has}
use Rattle.cond_formula.specs.Conditions.{value}
use Rattle.choice_expansions.specs.Expansions.{plain_expansion}
use Rattle.operand_types.specs.OperandTypes.{outcome_as}
use Rattle.operand_rules.specs.PlainOperandTypes.{reason}
use Rattle.type_tables.specs.Forms.{declared_type_form}
use Rattle.cond_declarators.specs.Types.{ShowsType, based_in, base_type}
use Rattle.cond_declarators.proofs.Placing.{placed_start, placed_next, placed_end}
use Rattle.cond_declarators.proofs.bases.types_of_each.Goals as goal

pub loop-expansion-init : goal.loop-expansion-init
loop-expansion-init g c = record {
  kept = refl;
  so_far = λ n scope f words admitted stands.
      placed_start declared_type_form reason (has n) plain_expansion c.args.expansions.now words (outcome_as (base_type f.by) (based_in false scope words)) c.nothing-all.result stands
      (c.nothing-all.ensures (has n) (outcome_as (base_type f.by) (based_in false scope words)));
}

pub loop-expansion-preserved : goal.loop-expansion-preserved
loop-expansion-preserved g c = record {
  kept = c.in_ok-types.ensures.kept ∙ c.loop-expansion.invariant.kept;
  so_far = λ n scope f words admitted stands.
      placed_next declared_type_form reason (has n) plain_expansion c.args.expansions.now words (outcome_as (base_type f.by) (based_in false scope words)) c.loop-expansion.expansion-index
      c.expansion-item.result c.in_ok-types.types c.loop-expansion.all c.place_under.new.self c.loop-expansion-test.true c.expansion-item.is
      (λ same. subst (λ w. ShowsType (has n) (outcome_as (base_type f.by) (based_in false scope w)) c.in_ok-types.types) same
      (c.in_ok-types.ensures.shows n scope f (ap (value (has n)) c.loop-expansion.invariant.kept ∙ admitted)))
      (c.in_ok-place_under.ensures (has n)) (c.loop-expansion.invariant.so_far n scope f words admitted stands);
}

pub returns-clause-shows : goal.returns-clause-shows
returns-clause-shows g c = λ n scope f words admitted stands.
    placed_end declared_type_form reason (has n) plain_expansion c.args.expansions.now words (outcome_as (base_type f.by) (based_in false scope words)) c.loop-expansion.expansion-index
    c.loop-expansion.all c.loop-expansion-test.false (c.loop-expansion.invariant.so_far n scope f words admitted stands)
