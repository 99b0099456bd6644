use Rattle.std.proofs.Common.{refl, ap, ◌∙◌}
use Rattle.std.specs.Prelude.{option_map}
use Rattle.cond_formula.specs.Features.{has}
use Rattle.cond_formula.specs.Conditions.{value}
use Rattle.conditional.specs.Entries.{entry_of}
use Rattle.c_tree.specs.Trees.{plain_tree}
use Rattle.choice_trees.specs.ChoiceTrees.{plain_item, item_at}
use Rattle.operand_types.specs.OperandTypes.{outcome_as, renumbered}
use Rattle.operand_rules.specs.PlainOperandTypes.{reason}
use Rattle.type_tables.specs.Forms.{declared_type_form}
use Rattle.cond_declarators.specs.Types.{object_type_in}
use Rattle.cond_declarators.proofs.Placing.{placed_start, placed_next, placed_end}
use Rattle.cond_declarators.proofs.objects.types_of_each.Goals as goal

pub loop-base-init : goal.loop-base-init
loop-base-init g c = record {
  kept = refl;
  so_far = λ n scope f ty name admitted there stands.
      placed_start declared_type_form reason (has n) (entry_of declared_type_form) c.args.bases.now (renumbered f.by ty)
      (outcome_as (renumbered f.by) (object_type_in scope ty (plain_tree c.args.declarator.now) name (option_map (λ item. item_at (has n) (plain_item item.now)) c.args.initialiser)))
      c.nothing-all.result stands
      (c.nothing-all.ensures (has n) (outcome_as (renumbered f.by) (object_type_in scope ty (plain_tree c.args.declarator.now) name (option_map (λ item. item_at (has n) (plain_item item.now)) c.args.initialiser))));
}

pub loop-base-preserved : goal.loop-base-preserved
loop-base-preserved g c = record {
  kept = c.in_ok-types.ensures.kept ∙ c.loop-base.invariant.kept;
  so_far = λ n scope f ty name admitted there stands.
      placed_next declared_type_form reason (has n) (entry_of declared_type_form) c.args.bases.now (renumbered f.by ty)
      (outcome_as (renumbered f.by) (object_type_in scope ty (plain_tree c.args.declarator.now) name (option_map (λ item. item_at (has n) (plain_item item.now)) c.args.initialiser)))
      c.loop-base.base-index c.base-item.result c.in_ok-types.types c.loop-base.all c.place_under.new.self c.loop-base-test.true c.base-item.is
      (λ same. c.in_ok-types.ensures.shows n scope f ty name (ap (value (has n)) c.loop-base.invariant.kept ∙ admitted) there same)
      (c.in_ok-place_under.ensures (has n)) (c.loop-base.invariant.so_far n scope f ty name admitted there stands);
}

pub returns-clause-shows : goal.returns-clause-shows
returns-clause-shows g c = λ n scope f ty name admitted there stands.
    placed_end declared_type_form reason (has n) (entry_of declared_type_form) c.args.bases.now (renumbered f.by ty)
    (outcome_as (renumbered f.by) (object_type_in scope ty (plain_tree c.args.declarator.now) name (option_map (λ item. item_at (has n) (plain_item item.now)) c.args.initialiser)))
    c.loop-base.base-index c.loop-base.all c.loop-base-test.false (c.loop-base.invariant.so_far n scope f ty name admitted there stands)
