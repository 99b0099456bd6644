use Rattle.std.proofs.Common.{◌≡◌, List, [], ◌∷◌, length, map, Iter, arith, refl, sym, ap, ◌∙◌, subst}
use Rattle.std.specs.declared.iter.Zip.{Zip}
use Rattle.std.proofs.lemmas.Iterator.{empty_from_Zip}
use Rattle.std.proofs.lemmas.Slice.Zip.{Zip-more}
use Rattle.std.proofs.lemmas.List.{map-append}
use Rattle.cond_formula.specs.Features.{has}
use Rattle.cond_formula.specs.Conditions.{condition_of, value}
use Rattle.conditional.specs.declared.lists.CondList.{CondList}
use Rattle.c_tree.specs.declared.kinds.Kind.TheVariants as k
use Rattle.choice_trees.specs.declared.trees.Forest.{Forest}
use Rattle.choice_trees.specs.ChoiceTrees.{plain_choices, parts_at}
use Rattle.project_file.specs.declared.projects.Unit.{Unit}
use Rattle.cond_scopes.specs.Units.{present_trees}
use Rattle.cond_selections.specs.declared.entries.Selection.{Selection}
use Rattle.cond_units.specs.Seen.{seen_unit}
use Rattle.cond_unit_uses.specs.Noted.{uses_at}
use Rattle.cond_unit_uses.specs.Units.{TakesUnit}
use Rattle.cond_unit_uses.proofs.EachUnit.{ahead_are, units_begin, one_more_unit, units_end}
use Rattle.cond_unit_uses.proofs.units.note_units.Goals as goal

pub loop-unit-init : goal.loop-unit-init
loop-unit-init g c =
    let units_are : c.into_iter-unit-iterator.result.a.rest.now ≡ c.args.units.now =
    ap (λ (z : Zip (Iter Unit) (Iter Forest)). z.a.rest.now) c.into_iter-unit-iterator.ensures.into_iter_gives
    ∙ (ap (λ (i : Iter Unit). i.rest.now) c.zip-unit-items.ensures.first ∙ c.iter.ensures.rest) in
    let forests_are : c.into_iter-unit-iterator.result.b.rest.now ≡ c.args.forests.now =
    ap (λ (z : Zip (Iter Unit) (Iter Forest)). z.b.rest.now) c.into_iter-unit-iterator.ensures.into_iter_gives ∙ c.zip-unit-items.ensures.second.0 in
    record {
      alike = ap (λ (list : List Forest). length list) forests_are ∙ (c.requires ∙ sym (ap (λ (list : List Unit). length list) units_are));
      kept = refl;
      so_far = λ n globals numbers linked bindings admitted written judged.
          ahead_are (has n) globals numbers c.args.units.now (present_trees (has n) c.args.units.now c.args.forests.now) linked.structs _ _ _ _ _ _ (sym units_are) (sym forests_are)
          (units_begin (has n) globals numbers c.args.units.now (present_trees (has n) c.args.units.now c.args.forests.now) linked.structs (map (uses_at (has n)) c.in_ok-all.all.items) (seen_unit (has n) c.no_unit-next.result) linked bindings
          (ap (λ list. map (uses_at (has n)) list) c.in_ok-all.ensures.items) (c.no_unit-next.ensures (has n)) refl written judged);
    }

pub loop-unit-preserved : goal.loop-unit-preserved
loop-unit-preserved g c =
    let left = Zip-more c.loop-unit.unit-iterator c.next.new.self c.next.result (c.in-Some.unit, c.in-Some.forest) c.in-Some.is c.next.ensures.steps in
    record {
      alike = omega (arith, ap (λ (units : List Unit). length units) left.0, ap (λ (forests : List Forest). length forests) left.1, c.loop-unit.invariant.alike);
      kept = c.in_ok-log.ensures.kept ∙ c.loop-unit.invariant.kept;
      so_far = λ n globals numbers linked bindings admitted written judged.
          let all = present_trees (has n) c.args.units.now c.args.forests.now in
          one_more_unit (has n) globals numbers c.args.units.now all linked.structs c.units_are_used.ensures c.units_are_derived.ensures c.scopes_keep_names.ensures c.in-Some.unit.now c.next.new.self.a.rest.now c.in-Some.forest.now
          c.next.new.self.b.rest.now (map (uses_at (has n)) c.loop-unit.all.items) (map (uses_at (has n)) c.push.new.self.items) (uses_at (has n) c.in_ok-log.log) (seen_unit (has n) c.loop-unit.next) (seen_unit (has n) c.note_unit.new.unit)
          (ap (λ (list : List (CondList Selection)). map (uses_at (has n)) list) c.in_ok-push.ensures.items ∙ map-append (uses_at (has n)) c.loop-unit.all.items (c.in_ok-log.log ∷ []))
          (subst (λ items. TakesUnit (value (has n) (condition_of c.in-Some.unit.now.when)) (parts_at (has n) k.Unit 0 (plain_choices items)) (seen_unit (has n) c.loop-unit.next) (seen_unit (has n) c.note_unit.new.unit) (uses_at (has n) c.in_ok-log.log))
          c.deref.ensures.value (c.in_ok-log.ensures.takes n (ap (value (has n)) c.loop-unit.invariant.kept ∙ admitted)))
          (ahead_are (has n) globals numbers c.args.units.now all linked.structs _ _ _ _ _ _ left.0 left.1 (c.loop-unit.invariant.so_far n globals numbers linked bindings admitted written judged));
    }

pub returns-clause-noted : goal.returns-clause-noted
returns-clause-noted g c = λ n globals numbers linked bindings admitted written judged.
    let spent = empty_from_Zip c.loop-unit.unit-iterator c.next.new.self c.next.result c.in-None.is c.next.ensures.steps (sym c.loop-unit.invariant.alike) in
    let all = present_trees (has n) c.args.units.now c.args.forests.now in
    units_end (has n) globals numbers c.args.units.now all linked.structs _ c.loop-unit.next (map (uses_at (has n)) c.loop-unit.all.items) refl refl
    (ahead_are (has n) globals numbers c.args.units.now all linked.structs _ _ _ _ _ _ spent.0 spent.1 (c.loop-unit.invariant.so_far n globals numbers linked bindings admitted written judged))
