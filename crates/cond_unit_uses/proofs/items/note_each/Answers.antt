use Rattle.std.proofs.Common.{Bool, ◌&&◌, refl, ap, ◌∙◌, subst}
use Rattle.cond_formula.specs.Features.{has}
use Rattle.cond_formula.specs.Conditions.{condition_of, value}
use Rattle.conditional.specs.Entries.{seen}
use Rattle.c_tree.specs.Trees.{trees}
use Rattle.choice_trees.specs.ChoiceTrees.{plain_item, item_at}
use Rattle.declarator_lists.specs.Entries.{entries_at}
use Rattle.cond_unit_uses.specs.Noted.{uses_at, noted_unit, Where, NotesItem}
use Rattle.cond_unit_uses.proofs.EachItem.{stays_same, stays_again, reached_begin, entry_reached, entries_reached}
use Rattle.cond_unit_uses.proofs.items.note_each.Goals as goal

pub loop-place-init : goal.loop-place-init
loop-place-init g c = record {
  kept = refl;
  elsewhere = λ n admitted off. stays_same (noted_unit (has n) c.args.unit.now c.args.log.now);
  so_far = λ n globals admitted on by unit next bindings is_unit names ready pieces judged.
      let all = seen (has n) (entries_at (has n) c.args.all.now) in
      reached_begin globals by unit (trees all) next (uses_at (has n) c.args.log.now) all (noted_unit (has n) c.args.unit.now c.args.log.now) bindings refl refl is_unit names ready pieces judged;
}

pub loop-place-preserved : goal.loop-place-preserved
loop-place-preserved g c = record {
  kept = c.in_ok-note_entry.ensures.kept ∙ c.loop-place.invariant.kept;
  elsewhere = λ n admitted off.
      stays_again (noted_unit (has n) c.args.unit.now c.args.log.now) (noted_unit (has n) c.loop-place.unit c.loop-place.log) (noted_unit (has n) c.note_entry.new.unit c.note_entry.new.log) (c.loop-place.invariant.elsewhere n admitted off)
      ((c.in_ok-note_entry.ensures.notes n 0 (ap (value (has n)) c.loop-place.invariant.kept ∙ admitted)).elsewhere (ap (λ (b : Bool). b && value (has n) (condition_of c.index-all-place.result.when)) off));
  so_far = λ n globals admitted on by unit next bindings is_unit names ready pieces judged.
      let all = seen (has n) (entries_at (has n) c.args.all.now) in
      let old = noted_unit (has n) c.loop-place.unit c.loop-place.log in
      let new = noted_unit (has n) c.note_entry.new.unit c.note_entry.new.log in
      let tree = item_at (has n) (plain_item c.index-all-place.result.item.now) in
      entry_reached globals by unit (trees all) next (uses_at (has n) c.args.log.now) (has n) c.args.all.now c.items_keep_names.ensures c.loop-place.place c.index-all-place.result old new c.loop-place-test.true c.index-all-place.is
      (subst (λ list. Where (value (has n) (condition_of c.index-all-place.result.when)) (NotesItem globals tree (trees (seen (has n) (entries_at (has n) list)))) old new) c.split_at.ensures.back
      (subst (λ (b : Bool). Where (b && value (has n) (condition_of c.index-all-place.result.when)) (NotesItem globals tree (trees (seen (has n) (entries_at (has n) c.split_at.result.1.now)))) old new) on
      (c.in_ok-note_entry.ensures.notes n globals (ap (value (has n)) c.loop-place.invariant.kept ∙ admitted))))
      (c.loop-place.invariant.so_far n globals admitted on by unit next bindings is_unit names ready pieces judged);
}

pub returns-clause-notes : goal.returns-clause-notes
returns-clause-notes g c = λ n globals admitted. record {
  elsewhere = λ off. c.loop-place.invariant.elsewhere n admitted off;
  does = λ on. record {
    notes = λ by unit next bindings is_unit names ready judged.
        entries_reached globals by unit (trees (seen (has n) (entries_at (has n) c.args.all.now))) next (uses_at (has n) c.args.log.now) (has n) c.args.all.now c.loop-place.place
        (noted_unit (has n) c.args.unit.now c.args.log.now) (noted_unit (has n) c.loop-place.unit c.loop-place.log) c.loop-place-test.false refl
        (c.loop-place.invariant.so_far n globals admitted on by unit next bindings is_unit names ready.0 ready.1 judged);
  };
}
