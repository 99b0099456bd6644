use Rattle.std.proofs.Common.{Bool, ◌&&◌, refl, ap, ◌∙◌, subst}
use Rattle.cond_formula.specs.Features.{has}
use Rattle.cond_formula.specs.Conditions.{condition_of, value}
use Rattle.conditional.specs.Entries.{seen}
use Rattle.conditional_steps.proofs.Alternatives.{nothing_done}
use Rattle.c_tree.specs.Trees.{trees}
use Rattle.c_tree.specs.Grammar.{file_item}
use Rattle.tree_derivations.specs.Derivations.{Derivation}
use Rattle.choice_trees.specs.ChoiceTrees.{plain_item, item_at}
use Rattle.declarator_lists.specs.Entries.{entries_at}
use Rattle.core_meaning.specs.UnitNames.{judged_file_items}
use Rattle.cond_units.specs.Seen.{seen_unit}
use Rattle.cond_units.specs.Where.{Where}
use Rattle.cond_units.proofs.Staying.{staying}
use Rattle.cond_units.specs.Items.{DeclaresItem}
use Rattle.cond_units.specs.Units.{one_item}
use Rattle.cond_units.proofs.EachItem.{items_begin, next_item, no_item}
use Rattle.cond_units.proofs.items.declare_each.Goals as goal

pub loop-place-init : goal.loop-place-init
loop-place-init g c = record {
  kept = refl;
  elsewhere = λ n admitted off. (staying.same (seen_unit (has n) c.args.unit.now), c.in_ok-refused.ensures (has n));
  so_far = λ n globals admitted on by unit is_unit ready.
      items_begin globals by unit (seen (has n) (entries_at (has n) c.args.all.now)) (seen_unit (has n) c.args.unit.now) (value (has n) (condition_of c.in_ok-refused.refused)) (c.in_ok-refused.ensures (has n)) is_unit ready;
}

pub loop-place-preserved : goal.loop-place-preserved
loop-place-preserved g c = record {
  kept = c.in_ok-found.ensures.kept ∙ c.loop-place.invariant.kept;
  elsewhere = λ n admitted off.
      nothing_done staying
      (DeclaresItem (one_item 0 (item_at (has n) (plain_item c.index-all-place.result.item.now)) (trees (seen (has n) (entries_at (has n) c.split_at.result.1.now)))) (Derivation file_item (item_at (has n) (plain_item c.index-all-place.result.item.now))))
      (value (has n) (condition_of c.args.when.now) && value (has n) (condition_of c.index-all-place.result.when)) (seen_unit (has n) c.args.unit.now) (seen_unit (has n) c.loop-place.unit) (seen_unit (has n) c.declare_entry.new.unit)
      (value (has n) (condition_of c.loop-place.refused)) (value (has n) (condition_of c.in_ok-found.found)) (value (has n) (condition_of c.in_ok-refused-2.refused))
      (ap (λ (b : Bool). b && value (has n) (condition_of c.index-all-place.result.when)) off) (c.in_ok-refused-2.ensures (has n))
      (c.in_ok-found.ensures.declares n 0 (ap (value (has n)) c.loop-place.invariant.kept ∙ admitted)) (c.loop-place.invariant.elsewhere n admitted off);
  so_far = λ n globals admitted on by unit is_unit ready.
      next_item globals by unit.scope.structs (judged_file_items globals unit (trees (seen (has n) (entries_at (has n) c.args.all.now)))) (has n) c.args.all.now c.loop-place.place c.index-all-place.result
      (seen_unit (has n) c.loop-place.unit) (seen_unit (has n) c.declare_entry.new.unit)
      (value (has n) (condition_of c.loop-place.refused)) (value (has n) (condition_of c.in_ok-found.found)) (value (has n) (condition_of c.in_ok-refused-2.refused))
      c.loop-place-test.true c.index-all-place.is (c.in_ok-refused-2.ensures (has n))
      (subst (λ list. Where (value (has n) (condition_of c.index-all-place.result.when))
      (DeclaresItem (one_item globals (item_at (has n) (plain_item c.index-all-place.result.item.now)) (trees (seen (has n) (entries_at (has n) list)))) (Derivation file_item (item_at (has n) (plain_item c.index-all-place.result.item.now))))
      (seen_unit (has n) c.loop-place.unit) (seen_unit (has n) c.declare_entry.new.unit) (value (has n) (condition_of c.in_ok-found.found)))
      c.split_at.ensures.back
      (subst (λ (b : Bool). Where (b && value (has n) (condition_of c.index-all-place.result.when))
      (DeclaresItem (one_item globals (item_at (has n) (plain_item c.index-all-place.result.item.now)) (trees (seen (has n) (entries_at (has n) c.split_at.result.1.now)))) (Derivation file_item (item_at (has n) (plain_item c.index-all-place.result.item.now))))
      (seen_unit (has n) c.loop-place.unit) (seen_unit (has n) c.declare_entry.new.unit) (value (has n) (condition_of c.in_ok-found.found))) on
      (c.in_ok-found.ensures.declares n globals (ap (value (has n)) c.loop-place.invariant.kept ∙ admitted))))
      (c.loop-place.invariant.so_far n globals admitted on by unit is_unit ready);
}

pub returns-clause-declares : goal.returns-clause-declares
returns-clause-declares g c = λ n globals admitted. record {
  elsewhere = λ off. c.loop-place.invariant.elsewhere n admitted off;
  does = λ on. record {
    goes_on = λ by unit is_unit ready.
        no_item globals by unit.scope.structs (judged_file_items globals unit (trees (seen (has n) (entries_at (has n) c.args.all.now)))) (has n) c.args.all.now c.loop-place.place
        (seen_unit (has n) c.loop-place.unit) (value (has n) (condition_of c.loop-place.refused)) c.loop-place-test.false (c.loop-place.invariant.so_far n globals admitted on by unit is_unit ready);
  };
}
