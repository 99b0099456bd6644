use Rattle.std.proofs.Common.{refl, ap, ◌∙◌, subst}
use Rattle.cond_formula.specs.Features.{has}
use Rattle.cond_formula.specs.Conditions.{condition_of, value}
use Rattle.conditional.specs.Entries.{seen}
use Rattle.conditional_steps.proofs.Alternatives.{Alternates, alternates_begin, alternates_next, alternates_end}
use Rattle.conditional_steps.proofs.FirstAlternative.{next_seen, none_seen}
use Rattle.c_tree.specs.Trees.{none}
use Rattle.choice_trees.specs.ChoiceTrees.{plain_item, item_at}
use Rattle.choice_variants.specs.Variants.{before, variant_before, shown}
use Rattle.cond_units.specs.Seen.{seen_unit}
use Rattle.cond_units.specs.Where.{Stays}
use Rattle.cond_units.proofs.Staying.{staying}
use Rattle.cond_units.specs.Items.{DeclaresItem}
use Rattle.cond_types.specs.Functions.{listed_definition, IsListedDefinition}
use Rattle.cond_types.proofs.Staying.{item_stable}
use Rattle.cond_types.proofs.functions.define_each.Goals as goal

pub loop-variant-init : goal.loop-variant-init
loop-variant-init g c = record {
  kept = refl;
  so_far = λ n list admitted alone.
      alternates_begin staying (item_stable (listed_definition (item_at (has n) (plain_item c.args.around.now.words.now)) (item_at (has n) (plain_item c.args.around.now.body.now))) (IsListedDefinition (item_at (has n) (plain_item c.args.around.now.body.now)))) list
      (seen_unit (has n) c.args.unit.now) (value (has n) (condition_of c.args.when.now))
      (seen (has n) (shown (has n) c.args.variants.now)) (value (has n) (condition_of c.in_ok-refused.refused)) (c.in_ok-refused.ensures (has n)) alone;
}

pub loop-variant-preserved : goal.loop-variant-preserved
loop-variant-preserved g c = record {
  kept = c.in_ok-found.ensures.kept ∙ c.loop-variant.invariant.kept;
  so_far = λ n list admitted alone.
      alternates_next staying (item_stable (listed_definition (item_at (has n) (plain_item c.args.around.now.words.now)) (item_at (has n) (plain_item c.args.around.now.body.now))) (IsListedDefinition (item_at (has n) (plain_item c.args.around.now.body.now)))) list
      (seen_unit (has n) c.args.unit.now)
      (before (has n) c.variant-item.result.parts.items none) (value (has n) (condition_of c.args.when.now)) (value (has n) (condition_of c.variant-item.result.when)) _ _
      (seen_unit (has n) c.loop-variant.unit) (seen_unit (has n) c.define_variant.new.unit)
      (value (has n) (condition_of c.loop-variant.refused)) (value (has n) (condition_of c.in_ok-found.found)) (value (has n) (condition_of c.in_ok-refused-2.refused))
      (next_seen (has n) (variant_before (has n) none) c.args.variants.now c.loop-variant.variant-index c.variant-item.result c.loop-variant-test.true c.variant-item.is)
      (c.in_ok-refused-2.ensures (has n)) (c.in_ok-found.ensures.declares n (ap (value (has n)) c.loop-variant.invariant.kept ∙ admitted)) (c.loop-variant.invariant.so_far n list admitted alone);
}

pub returns-clause-declares : goal.returns-clause-declares
returns-clause-declares g c = λ n list admitted alone.
    alternates_end staying (item_stable (listed_definition (item_at (has n) (plain_item c.args.around.now.words.now)) (item_at (has n) (plain_item c.args.around.now.body.now))) (IsListedDefinition (item_at (has n) (plain_item c.args.around.now.body.now)))) list
    (seen_unit (has n) c.args.unit.now) (value (has n) (condition_of c.args.when.now))
    (seen_unit (has n) c.loop-variant.unit) (value (has n) (condition_of c.loop-variant.refused))
    (subst (λ rest. Alternates Stays (λ list. DeclaresItem (listed_definition (item_at (has n) (plain_item c.args.around.now.words.now)) (item_at (has n) (plain_item c.args.around.now.body.now)) list) (IsListedDefinition (item_at (has n) (plain_item c.args.around.now.body.now)) list)) list
    (seen_unit (has n) c.args.unit.now) (value (has n) (condition_of c.args.when.now)) rest
    (seen_unit (has n) c.loop-variant.unit) (value (has n) (condition_of c.loop-variant.refused)))
    (none_seen (has n) (variant_before (has n) none) c.args.variants.now c.loop-variant.variant-index c.loop-variant-test.false)
    (c.loop-variant.invariant.so_far n list admitted alone))
