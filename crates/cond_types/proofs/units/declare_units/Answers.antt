use Rattle.std.proofs.Common.{◌≡◌, List, [], length, Iter, arith, refl, sym, ap, ◌∙◌, subst}
use Rattle.std.specs.declared.iter.Zip.{Zip}
use Rattle.std.proofs.lemmas.Iterator.{empty_from_Zip}
use Rattle.std.proofs.lemmas.Slice.Zip.{Zip-more}
use Rattle.cond_formula.specs.Features.{has}
use Rattle.cond_formula.specs.Conditions.{condition_of, value}
use Rattle.c_tree.specs.declared.kinds.Kind.TheVariants as k
use Rattle.choice_trees.specs.declared.trees.Forest.{Forest}
use Rattle.choice_trees.specs.ChoiceTrees.{plain_choices, parts_at}
use Rattle.project_file.specs.declared.projects.Unit.{Unit}
use Rattle.core_meaning.specs.Linking.{judged_units}
use Rattle.cond_types.specs.Steps.{TakesUnit}
use Rattle.cond_scopes.specs.Units.{present_trees}
use Rattle.cond_types.specs.declared.units.TypedUnits.{TypedUnits}
use Rattle.cond_types.specs.Units.{AreTyped}
use Rattle.cond_types.proofs.EachUnit.{ahead_are, none_gone, one_more_gone, all_gone}
use Rattle.cond_types.proofs.Present.{taken_at, none_present, one_more_present, all_present}
use Rattle.cond_types.proofs.units.declare_units.Goals as goal

pub loop-unit-init : goal.loop-unit-init
loop-unit-init g c =
    let units_are : c.into_iter-unit-iterator.result.a.rest.now ≡ c.args.units.now =
    ap (λ (z : Zip (Iter Unit) (Iter Forest)). z.a.rest.now) c.into_iter-unit-iterator.ensures.into_iter_gives
    ∙ (ap (λ (i : Iter Unit). i.rest.now) c.zip-unit-items.ensures.first ∙ c.iter.ensures.rest) in
    let forests_are : c.into_iter-unit-iterator.result.b.rest.now ≡ c.args.forests.now =
    ap (λ (z : Zip (Iter Unit) (Iter Forest)). z.b.rest.now) c.into_iter-unit-iterator.ensures.into_iter_gives ∙ c.zip-unit-items.ensures.second.0 in
    record {
      alike = ap (λ (list : List Forest). length list) forests_are ∙ (c.requires ∙ sym (ap (λ (list : List Unit). length list) units_are));
      kept = refl;
      present = λ n admitted. none_present (has n) c.args.units.now _ c.no_unit-all.result.units.items c.no_unit-all.ensures.units units_are;
      so_far = λ n globals numbers admitted.
          ahead_are (has n) c.args.units.now c.args.forests.now globals numbers c.no_unit-all.result _ _ _ _ (sym units_are) (sym forests_are)
          (none_gone (has n) c.args.units.now c.args.forests.now globals numbers c.no_unit-all.result c.no_unit-all.ensures.units (c.no_unit-all.ensures.next (has n)) (c.no_unit-all.ensures.refused (has n)));
    }

pub loop-unit-preserved : goal.loop-unit-preserved
loop-unit-preserved g c =
    let left = Zip-more c.loop-unit.unit-iterator c.next.new.self c.next.result (c.in-Some.unit, c.in-Some.forest) c.in-Some.is c.next.ensures.steps in
    record {
      alike = omega (arith, ap (λ (units : List Unit). length units) left.0, ap (λ (forests : List Forest). length forests) left.1, c.loop-unit.invariant.alike);
      kept = c.in_ok-take_unit.ensures.kept ∙ c.loop-unit.invariant.kept;
      present = λ n admitted.
          let took = c.in_ok-take_unit.ensures.takes n (ap (value (has n)) c.loop-unit.invariant.kept ∙ admitted) in
          one_more_present (has n) c.args.units.now _ c.next.new.self.a.rest.now c.in-Some.unit.now _ c.take_unit.new.all.units.items took.left left.0 took.units_are took.when_is (c.loop-unit.invariant.present n admitted);
      so_far = λ n globals numbers admitted.
          one_more_gone (has n) c.args.units.now c.args.forests.now globals numbers c.units_are_derived.ensures c.in-Some.unit.now c.next.new.self.a.rest.now c.in-Some.forest.now c.next.new.self.b.rest.now
          c.loop-unit.all c.take_unit.new.all
          (subst (λ items. TakesUnit (has n) (value (has n) (condition_of c.in-Some.unit.now.when)) (parts_at (has n) k.Unit 0 (plain_choices items)) c.loop-unit.all c.take_unit.new.all) c.deref.ensures.value
          (c.in_ok-take_unit.ensures.takes n (ap (value (has n)) c.loop-unit.invariant.kept ∙ admitted)))
          (ahead_are (has n) c.args.units.now c.args.forests.now globals numbers c.loop-unit.all _ _ _ _ left.0 left.1 (c.loop-unit.invariant.so_far n globals numbers admitted));
    }

pub returns-clause-typed : goal.returns-clause-typed
returns-clause-typed g c = λ n admitted in_grammar globals numbers.
    let spent = empty_from_Zip c.loop-unit.unit-iterator c.next.new.self c.next.result c.in-None.is c.next.ensures.steps (sym c.loop-unit.invariant.alike) in
    subst (AreTyped (has n) (judged_units numbers globals 0 [] (present_trees (has n) c.args.units.now c.args.forests.now))) (sym c.together.ensures)
    (all_gone (has n) c.args.units.now c.args.forests.now globals numbers c.loop-unit.all
    (ahead_are (has n) c.args.units.now c.args.forests.now globals numbers c.loop-unit.all _ _ _ _ spent.0 spent.1 (c.loop-unit.invariant.so_far n globals numbers admitted)) in_grammar)

pub returns-clause-present : goal.returns-clause-present
returns-clause-present g c = λ n admitted.
    let spent = empty_from_Zip c.loop-unit.unit-iterator c.next.new.self c.next.result c.in-None.is c.next.ensures.steps (sym c.loop-unit.invariant.alike) in
    ap (λ (t : TypedUnits). taken_at (has n) t.units.items) c.together.ensures
    ∙ all_present (has n) c.args.units.now _ c.loop-unit.all.units.items spent.0 (c.loop-unit.invariant.present n admitted)
