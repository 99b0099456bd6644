use Rattle.std.proofs.Common.{ap, subst, sym}
use Rattle.std.proofs.lemmas.List.{map-append}
use Rattle.toml.specs.View.{view}
use Rattle.project_file.specs.Contents.{UnitText, IsUnitValue}
use Rattle.project_file.specs.View.{unit_text_view, unit_texts_view}
use Rattle.project_file.proofs.ShapeLemmas.{each_unit, units_more}
use Rattle.project_file.proofs.shape.units_of.Goals as goal

pub returns-in-None : goal.returns-in-None
returns-in-None c = λ units are.
    let project = c.args.project.now in
    let v = c.value-item.result in
    let u = each_unit project c.args.values.now units c.loop-value.value-index v are c.loop-value-test.true in
    let none : (u : UnitText) → IsUnitValue project (view v) u → ⊥ = rw c.in-None.is at c.in_ok-unit.ensures in
    none u.0 (subst (λ d. IsUnitValue project d u.0) (ap view (sym c.value-item.is)) u.1)

pub loop-value-preserved : goal.loop-value-preserved
loop-value-preserved c =
    let project = c.args.project.now in
    let v = c.value-item.result in
    let u = unit_text_view c.in-Some.unit in
    let is : IsUnitValue project (view v) u = rw c.in-Some.is at c.in_ok-unit.ensures in
    rw (c.in_ok-push-in-Some.ensures.items, map-append)
    (units_more project c.args.values.now c.loop-value.value-index v (unit_texts_view c.loop-value.units) u c.loop-value-test.true c.value-item.is c.loop-value.invariant is)
