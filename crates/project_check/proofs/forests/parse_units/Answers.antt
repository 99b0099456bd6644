use Rattle.std.proofs.Common.{◌<◌, ◌+◌, List, length, IsTrue, rules, refl, ap, ◌∙◌, arith}
use Rattle.std.proofs.lemmas.List.{length_push}
use Rattle.text_edits.specs.Files.{plain_files}
use Rattle.cond_formula.specs.Features.{has}
use Rattle.cond_formula.specs.Conditions.{condition_of, value}
use Rattle.cond_formula.specs.declared.formulas.Formula.{False}
use Rattle.cond_formula.specs.ConditionLaws.{condition_of-False}
use Rattle.choice_trees.specs.declared.trees.Forest.{Forest}
use Rattle.project_check.proofs.UnitLemmas.{no_unit_yet, next_unit, next_leaves}
use Rattle.project_check.proofs.forests.parse_units.Goals as goal

pub loop-place-init : goal.loop-place-init
loop-place-init g c = record {
  whole = search rules;
  kept = refl;
  as_many = ap (λ (fs : List Forest). length fs) c.in_ok-with_capacity-2.ensures.items;
  so_far = λ c' admitted.
      let off = ap (value (has c')) condition_of-False in
      no_unit_yet (has c') c.args.project.now (plain_files c.args.files.now) (value (has c') (condition_of False)) (value (has c') (condition_of False)) c.in_ok-with_capacity-2.field-0.items off off;
  leaves = λ c' admitted none.
      rw (c.in_ok-with_capacity.ensures.items, c.in_ok-with_capacity-2.ensures.items) tt;
}

pub loop-place-preserved : goal.loop-place-preserved
loop-place-preserved g c =
    let place = c.loop-place.place in
    let old = c.loop-place.all in
    let unit = c.in_ok-unit.unit in
    let new = c.in_ok-all.all in
    let inside : place < length c.args.project.now.units.items = omega (arith, c.loop-place.invariant.whole) in
    record {
      whole = c.loop-place.invariant.whole;
      kept = c.in_ok-unit.ensures.kept ∙ c.loop-place.invariant.kept;
      as_many = ap (λ (fs : List Forest). length fs) c.in_ok-all.ensures.forests ∙ length_push old.forests.items unit.forest ∙ ap (λ n. n + 1) c.loop-place.invariant.as_many;
      so_far = λ c' admitted.
          let there : IsTrue (value (has c') (g.O.Oracle.admits c.loop-place.oracle)) = ap (value (has c')) c.loop-place.invariant.kept ∙ admitted in
          next_unit (has c') c.args.project.now (plain_files c.args.files.now) place c.index.result.now unit.forest (value (has c') (condition_of unit.stream.refused)) (value (has c') (condition_of unit.treeless))
          (value (has c') (condition_of old.unread)) (value (has c') (condition_of old.treeless)) (value (has c') (condition_of new.unread)) (value (has c') (condition_of new.treeless)) old.forests.items new.forests.items
          inside c.index.ensures c.loop-place.invariant.as_many (c.loop-place.invariant.so_far c' admitted) (c.in_ok-unit.ensures.parsed c' there)
          c.in_ok-all.ensures.forests (c.in_ok-all.ensures.unread (has c')) (c.in_ok-all.ensures.treeless (has c'));
      leaves = λ c' admitted none.
          let there : IsTrue (value (has c') (g.O.Oracle.admits c.loop-place.oracle)) = ap (value (has c')) c.loop-place.invariant.kept ∙ admitted in
          next_leaves (has c') c.args.project.now.units.items place c.index.result.now unit.stream unit.forest (value (has c') (condition_of unit.treeless)) (value (has c') (condition_of old.treeless)) (value (has c') (condition_of new.treeless))
          old.streams.items new.streams.items old.forests.items new.forests.items inside c.index.ensures (c.loop-place.invariant.leaves c' admitted) (c.in_ok-unit.ensures.leaves c' there)
          c.in_ok-all.ensures.streams c.in_ok-all.ensures.forests (c.in_ok-all.ensures.treeless (has c')) none;
    }
