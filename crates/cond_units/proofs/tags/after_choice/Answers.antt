use Rattle.std.proofs.Common.{◌≡◌, ◌&&◌, ◌||◌, ap, subst, Bool}
use Rattle.cond_formula.specs.Conditions.{condition_of, value}
use Rattle.choice_trees.specs.ChoiceTrees.{plain_branches, with_part, branch_at}
use Rattle.cond_units.specs.Tags.{has_tag, ends}
use Rattle.cond_units.proofs.Searching.{one_word, no_word}
use Rattle.cond_units.proofs.tags.after_choice.Goals as goal

pub loop-when-init : goal.loop-when-init
loop-when-init c = record {
  so_far = λ on rest. ap (λ (b : Bool). b || (value on (condition_of c.args.search.left) && has_tag c.args.tag.now (with_part c.args.needed (branch_at on (plain_branches c.deref-when-items.result.now)) rest)))
      (c.with_nothing_left-searched.ensures on (has_tag c.args.tag.now rest));
}

pub loop-when-preserved : goal.loop-when-preserved
loop-when-preserved c = record {
  so_far = λ on rest.
      one_word on c.args.tag.now c.args.needed rest c.deref-when-items.result.now c.loop-when.when-index c.loop-when-item.result
      (condition_of c.loop-when.untaken) (condition_of c.in_ok-here.here) (condition_of c.in_ok-untaken.untaken) c.word_of-word.result
      (ends on c.loop-when.searched (has_tag c.args.tag.now rest)) _ _
      c.loop-when-test.true c.loop-when-item.is
      (c.in_ok-here.ensures on)
      (c.in_ok-untaken.ensures on)
      (c.word_of-word.ensures on rest)
      (c.in_ok-searched.ensures on (has_tag c.args.tag.now rest))
      (c.loop-when.invariant.so_far on rest);
}

pub returns : goal.returns
returns c = λ on rest.
    subst (λ list. ends on c.in_ok-ended.ended (has_tag c.args.tag.now rest) ≡ ends on c.args.search (has_tag c.args.tag.now (with_part c.args.needed (branch_at on (plain_branches list)) rest)))
    c.deref-when-items.ensures.value
    (no_word on c.args.tag.now c.args.needed rest c.deref-when-items.result.now c.loop-when.when-index (condition_of c.loop-when.untaken)
    (ends on c.loop-when.searched (has_tag c.args.tag.now rest)) _ _ c.loop-when-test.false
    (c.in_ok-ended.ensures on c.args.tag.now rest) (c.loop-when.invariant.so_far on rest))
