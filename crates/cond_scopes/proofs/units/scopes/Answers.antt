use Rattle.std.proofs.Common.{◌≡◌, List, length, IsTrue, Iter, arith, refl, sym, ap, ◌∙◌}
use Rattle.std.specs.declared.iter.Zip.{Zip}
use Rattle.std.proofs.lemmas.Iterator.{empty_from_Zip}
use Rattle.std.proofs.lemmas.Slice.Zip.{Zip-more}
use Rattle.cond_formula.specs.declared.formulas.Formula.{False}
use Rattle.cond_formula.specs.Features.{has}
use Rattle.cond_formula.specs.Conditions.{condition_of, value}
use Rattle.cond_formula.specs.ConditionLaws.{condition_of-False}
use Rattle.choice_trees.specs.declared.trees.Forest.{Forest}
use Rattle.project_file.specs.declared.projects.Unit.{Unit}
use Rattle.cond_scopes.proofs.UnitLemmas.{left_are, no_unit_yet, one_unit_more, no_unit_left}
use Rattle.cond_scopes.proofs.units.scopes.Goals as goal

pub loop-unit-init : goal.loop-unit-init
loop-unit-init g c =
    let units_are : c.into_iter-unit-iterator.result.a.rest.now ≡ c.args.units.now =
    ap (λ (z : Zip (Iter Unit) (Iter Forest)). z.a.rest.now) c.into_iter-unit-iterator.ensures.into_iter_gives
    ∙ (ap (λ (i : Iter Unit). i.rest.now) c.zip-unit-items.ensures.first ∙ c.iter.ensures.rest) in
    let forests_are : c.into_iter-unit-iterator.result.b.rest.now ≡ c.args.forests.now =
    ap (λ (z : Zip (Iter Unit) (Iter Forest)). z.b.rest.now) c.into_iter-unit-iterator.ensures.into_iter_gives ∙ c.zip-unit-items.ensures.second.0 in
    record {
      alike = ap (λ (list : List Forest). length list) forests_are ∙ (c.requires ∙ sym (ap (λ (list : List Unit). length list) units_are));
      kept = refl;
      so_far = λ c' admitted.
          left_are (has c') c.args.units.now c.args.forests.now _ _ _ _ _ _ (sym units_are) (sym forests_are)
          (no_unit_yet (has c') c.args.units.now c.args.forests.now c.in_ok-with_capacity.field-0.items (value (has c') (condition_of False)) c.in_ok-with_capacity.ensures.items
          (ap (value (has c')) condition_of-False));
    }

pub loop-unit-preserved : goal.loop-unit-preserved
loop-unit-preserved g c =
    let left = Zip-more c.loop-unit.unit-iterator c.next.new.self c.next.result (c.in-Some.unit, c.in-Some.forest) c.in-Some.is c.next.ensures.steps in
    record {
      alike = omega (arith, ap (λ (units : List Unit). length units) left.0, ap (λ (forests : List Forest). length forests) left.1, c.loop-unit.invariant.alike);
      kept = c.in_ok-bindings.ensures.kept ∙ c.loop-unit.invariant.kept;
      so_far = λ c' admitted.
          let admitted_here : IsTrue (value (has c') (g.O.Oracle.admits c.loop-unit.oracle)) = ap (value (has c')) c.loop-unit.invariant.kept ∙ admitted in
          one_unit_more (has c') c.args.units.now c.args.forests.now c.in-Some.unit.now c.next.new.self.a.rest.now c.in-Some.forest.now c.next.new.self.b.rest.now
          c.loop-unit.all.units.items c.in_ok-bindings.bindings c.push.new.self.items
          (value (has c') (condition_of c.loop-unit.all.refused)) (value (has c') (condition_of c.in_ok-bindings.refused)) (value (has c') (condition_of c.in_ok-all.field-0))
          (left_are (has c') c.args.units.now c.args.forests.now _ _ _ _ _ _ left.0 left.1 (c.loop-unit.invariant.so_far c' admitted))
          (c.in_ok-bindings.ensures.scoped c' admitted_here) (c.in_ok-bindings.ensures.used c' admitted_here) (c.in_ok-bindings.ensures.refused c' admitted_here) c.in_ok-push.ensures.items (c.in_ok-all.ensures (has c'));
    }

pub returns-clause-scoped : goal.returns-clause-scoped
returns-clause-scoped g c = λ c' admitted.
    let spent = empty_from_Zip c.loop-unit.unit-iterator c.next.new.self c.next.result c.in-None.is c.next.ensures.steps (sym c.loop-unit.invariant.alike) in
    no_unit_left (has c') c.args.units.now c.args.forests.now c.loop-unit.all
    (left_are (has c') c.args.units.now c.args.forests.now _ _ _ _ _ _ spent.0 spent.1 (c.loop-unit.invariant.so_far c' admitted))
