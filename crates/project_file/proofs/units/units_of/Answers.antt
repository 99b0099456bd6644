use Rattle.std.proofs.Common.{map, string_bytes}
use Rattle.std.proofs.lemmas.Result.{err_from_is_err_and}
use Rattle.project_file.specs.View.{unit_text_view, unit_view}
use Rattle.project_file.proofs.TextLemmas.{unit_fault, units_more}
use Rattle.project_file.proofs.units.units_of.Goals as goal

pub returns-in_err-unit : goal.returns-in_err-unit
returns-in_err-unit c =
    let p = err_from_is_err_and c.from_residual.result c.from_residual.ensures.1 in
    rw (p.1, p.2)
    (unit_fault unit_text_view (map string_bytes c.args.features.now) c.args.texts.now c.loop-index.index c.index-texts-index.result (map unit_view c.loop-index.units.items) c.args.before c.in_err-unit.field-0.0 c.loop-index-test.true c.index-texts-index.is c.loop-index.invariant c.in_err-unit.ensures)

pub loop-index-preserved : goal.loop-index-preserved
loop-index-preserved c =
    rw c.in_ok-push.ensures.items
    (units_more unit_text_view unit_view (map string_bytes c.args.features.now) c.args.texts.now c.loop-index.index c.index-texts-index.result c.loop-index.units.items c.in_ok-unit.unit c.loop-index-test.true c.index-texts-index.is c.loop-index.invariant c.in_ok-unit.ensures)
