use Rattle.std.proofs.Common.{false, refl, ap, ◌∙◌}
use Rattle.c_tree.specs.declared.kinds.Kind.TheVariants as k
use Rattle.choice_trees.specs.ChoiceTrees.{plain_choices, parts_at}
use Rattle.cond_formula.specs.Conditions.{condition_of, value}
use Rattle.cond_units.specs.Tags.{first_has_tag}
use Rattle.cond_units.proofs.Searching.{one_part, no_part}
use Rattle.cond_units.proofs.completions.where_first_has_tag.Goals as goal

pub loop-choice-init : goal.loop-choice-init
loop-choice-init c = record {
  so_far = λ on. c.begun-search.ensures on (first_has_tag c.args.tag.now (parts_at on k.StructDefinition 0 (plain_choices c.args.parts.now)));
}

pub loop-choice-preserved : goal.loop-choice-preserved
loop-choice-preserved c = record {
  so_far = λ on.
      one_part on (first_has_tag c.args.tag.now) k.StructDefinition c.args.parts.now c.loop-choice.choice-index c.choice-item.result false c.loop-choice.search c.in_ok-search.search
      c.loop-choice-test.true c.choice-item.is refl
      (c.in_ok-search.ensures on) (c.loop-choice.invariant.so_far on);
}

pub returns : goal.returns
returns c = λ on.
    ap (λ f. value on (condition_of f)) c.where_found.ensures
    ∙ no_part on (first_has_tag c.args.tag.now) k.StructDefinition c.args.parts.now c.loop-choice.choice-index c.loop-choice.search c.loop-choice-test.false refl (c.loop-choice.invariant.so_far on)
