use Rattle.std.proofs.Common.{refl, ap, ◌∙◌}
use Rattle.choice_trees.specs.ChoiceTrees.{plain_choices, parts_at}
use Rattle.cond_formula.specs.Conditions.{condition_of, value}
use Rattle.cond_units.specs.Tags.{has_tag}
use Rattle.cond_units.proofs.Searching.{one_part, no_part}
use Rattle.cond_units.proofs.tags.where_among.Goals as goal

pub loop-place-init : goal.loop-place-init
loop-place-init c = record {
  so_far = λ on. c.begun-search.ensures on (has_tag c.args.tag.now (parts_at on c.args.kind 0 (plain_choices c.args.words.now)));
}

pub loop-place-preserved : goal.loop-place-preserved
loop-place-preserved c = record {
  so_far = λ on.
      one_part on (has_tag c.args.tag.now) c.args.kind c.args.words.now c.loop-place.place c.index-words-place.result c.needs_statement.result c.loop-place.search c.in_ok-search.search
      c.loop-place-test.true c.index-words-place.is c.needs_statement.ensures
      (c.in_ok-search.ensures on) (c.loop-place.invariant.so_far on);
}

pub returns : goal.returns
returns c = λ on.
    ap (λ f. value on (condition_of f)) c.where_found.ensures
    ∙ no_part on (has_tag c.args.tag.now) c.args.kind c.args.words.now c.loop-place.place c.loop-place.search c.loop-place-test.false refl (c.loop-place.invariant.so_far on)
