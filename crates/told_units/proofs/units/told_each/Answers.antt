use Rattle.std.proofs.Common.{◌≡◌, List, length, Iter, arith, rules, refl, sym, ap, ◌∙◌}
use Rattle.std.specs.declared.iter.Zip.{Zip}
use Rattle.std.proofs.lemmas.Iterator.{empty_from_Zip}
use Rattle.std.proofs.lemmas.Slice.Zip.{Zip-more}
use Rattle.cond_formula.specs.Features.{has}
use Rattle.cond_formula.specs.Conditions.{value}
use Rattle.choice_trees.specs.declared.trees.Forest.{Forest}
use Rattle.project_file.specs.declared.projects.Unit.{Unit}
use Rattle.told_units.proofs.Each.{none_told, one_more_told, all_told}
use Rattle.told_units.proofs.units.told_each.Goals as goal

pub loop-unit-init : goal.loop-unit-init
loop-unit-init g c =
    let units_are : c.into_iter-unit-iterator.result.a.rest.now ≡ c.args.units.now =
    ap (λ (z : Zip (Iter Unit) (Iter Forest)). z.a.rest.now) c.into_iter-unit-iterator.ensures.into_iter_gives
    ∙ (ap (λ (i : Iter Unit). i.rest.now) c.zip-unit-items.ensures.first ∙ c.iter.ensures.rest) in
    let forests_are : c.into_iter-unit-iterator.result.b.rest.now ≡ c.args.forests.now =
    ap (λ (z : Zip (Iter Unit) (Iter Forest)). z.b.rest.now) c.into_iter-unit-iterator.ensures.into_iter_gives ∙ c.zip-unit-items.ensures.second.0 in
    record {
      alike = ap (λ (list : List Forest). length list) forests_are ∙ (c.requires ∙ sym (ap (λ (list : List Unit). length list) units_are));
      kept = refl;
      so_far = λ n admitted.
          none_told (has n) c.args.bound.now c.args.left.now c.args.noted.now.tables c.args.noted.now.units.items c.args.units.now c.args.forests.now c.in_ok-all.all.items _ _ c.in_ok-all.ensures.items units_are forests_are;
    }

pub loop-unit-preserved : goal.loop-unit-preserved
loop-unit-preserved g c =
    let left = Zip-more c.loop-unit.unit-iterator c.next.new.self c.next.result (c.in-Some.unit, c.in-Some.forest) c.in-Some.is c.next.ensures.steps in
    let place : c.len.result ≡ length c.loop-unit.all.items = search rules in
    record {
      alike = omega (arith, ap (λ (units : List Unit). length units) left.0, ap (λ (forests : List Forest). length forests) left.1, c.loop-unit.invariant.alike);
      kept = c.in_ok-told.ensures.kept ∙ c.loop-unit.invariant.kept;
      so_far = λ n admitted.
          one_more_told (has n) c.args.bound.now c.args.left.now c.args.noted.now.tables c.args.noted.now.units.items c.args.units.now c.args.forests.now c.loop-unit.all.items c.push.new.self.items
          c.in-Some.unit.now _ c.next.new.self.a.rest.now c.in-Some.forest.now _ c.next.new.self.b.rest.now c.in_ok-told.told c.len.result c.in_ok-push.ensures.items left.0 left.1 place
          (c.in_ok-told.ensures.told n (ap (value (has n)) c.loop-unit.invariant.kept ∙ admitted)) (c.loop-unit.invariant.so_far n admitted);
    }

pub returns-clause-told : goal.returns-clause-told
returns-clause-told g c = λ n admitted.
    let spent = empty_from_Zip c.loop-unit.unit-iterator c.next.new.self c.next.result c.in-None.is c.next.ensures.steps (sym c.loop-unit.invariant.alike) in
    all_told (has n) c.args.bound.now c.args.left.now c.args.noted.now.tables c.args.noted.now.units.items c.args.units.now c.args.forests.now c.loop-unit.all.items _ _ spent.0 (c.loop-unit.invariant.so_far n admitted)
