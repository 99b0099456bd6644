use Rattle.std.proofs.Common.{◌≡◌, refl, subst}
use Rattle.choice_trees.specs.ChoiceTrees.{plain_branches}
use Rattle.cond_units.specs.Tags.{first_has_tag, ends}
use Rattle.cond_units.proofs.Searching.{begins, one_first, no_first}
use Rattle.cond_units.proofs.completions.after_part.Goals as goal

pub loop-when-init : goal.loop-when-init
loop-when-init c = record { so_far = λ on rest. refl }

pub loop-when-preserved : goal.loop-when-preserved
loop-when-preserved c = record {
  so_far = λ on rest.
      one_first on c.args.tag.now rest c.deref-when-items.result.now c.loop-when.when-index c.loop-when-item.result c.loop-when.searched c.in_ok-searched.searched _
      c.loop-when-test.true c.loop-when-item.is (c.in_ok-searched.ensures on) (c.loop-when.invariant.so_far on rest);
}

pub returns : goal.returns
returns c = λ on rest.
    subst (λ list. ends on c.loop-when.searched (first_has_tag c.args.tag.now rest) ≡ ends on c.args.search (begins on c.args.tag.now rest (plain_branches list)))
    c.deref-when-items.ensures.value
    (no_first on c.args.tag.now rest c.deref-when-items.result.now c.loop-when.when-index c.loop-when.searched _ c.loop-when-test.false (c.loop-when.invariant.so_far on rest))
