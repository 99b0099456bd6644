use Rattle.std.proofs.Common.{◌≡◌, List, [], ◌∷◌, ◌++◌, refl, ap, ap₂, ◌∙◌, subst}
use Rattle.cond_formula.specs.Features.{has}
use Rattle.cond_formula.specs.Conditions.{condition_of, value}
use Rattle.conditional.specs.Entries.{seen, under}
use Rattle.choice_trees.specs.ChoiceTrees.{plain_item, item_at}
use Rattle.declarator_lists.specs.Entries.{entries_at, heads_at}
use Rattle.declarator_lists.specs.declared.items.ListEntry.{ListEntry}
use Rattle.declarator_lists.proofs.Parts.{one_beginning, no_beginning}
use Rattle.declarator_lists.proofs.beginnings.heads.Goals as goal

pub loop-place-init : goal.loop-place-init
loop-place-init g c = record {
  kept = refl;
  begun = λ n admitted.
      ap₂ (λ items when. seen (has n) (heads_at (has n) items) ++ under (value (has n) when) (seen (has n) (entries_at (has n) c.args.list.now) ∷ [])) c.new-all.ensures.items c.in_ok-left.ensures;
}

pub loop-place-preserved : goal.loop-place-preserved
loop-place-preserved g c = record {
  kept = c.in_ok-push_head.ensures.kept ∙ c.loop-place.invariant.kept;
  begun = λ n admitted.
      one_beginning (has n) c.args.list.now c.loop-place.place c.index-list-place.result
      (condition_of c.loop-place.left) (condition_of c.in_ok-here.here) (condition_of c.in_ok-left-2.left)
      (seen (has n) (heads_at (has n) c.loop-place.all.items)) (seen (has n) (heads_at (has n) c.push_head.new.all.items)) _
      c.loop-place-test.true c.index-list-place.is
      (c.in_ok-here.ensures (has n))
      (c.in_ok-left-2.ensures (has n))
      (subst (λ (behind : List ListEntry). seen (has n) (heads_at (has n) c.push_head.new.all.items)
      ≡ seen (has n) (heads_at (has n) c.loop-place.all.items) ++ under (value (has n) (condition_of c.in_ok-here.here)) ((item_at (has n) (plain_item c.index-list-place.result.item.now) ∷ seen (has n) (entries_at (has n) behind)) ∷ []))
      c.split_at.ensures.back
      (c.in_ok-push_head.ensures.adds n (ap (value (has n)) c.loop-place.invariant.kept ∙ admitted)))
      (c.loop-place.invariant.begun n admitted);
}

pub returns-clause-alone : goal.returns-clause-alone
returns-clause-alone g c = λ n admitted.
    no_beginning (has n) c.args.list.now c.loop-place.place (condition_of c.loop-place.left) (seen (has n) (heads_at (has n) c.loop-place.all.items)) (seen (has n) (heads_at (has n) c.push_head-2.new.all.items)) _ c.loop-place-test.false
    (c.in_ok-push_head-2.ensures.adds n (ap (value (has n)) c.loop-place.invariant.kept ∙ admitted))
    (c.loop-place.invariant.begun n admitted)
