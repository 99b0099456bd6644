use Rattle.std.proofs.Common.{sym}
use Rattle.toml.specs.View.{table_view}
use Rattle.project_file.proofs.ShapeLemmas.{found_units}
use Rattle.project_file.proofs.shape.units_in.Goals as goal

pub returns : goal.returns
returns c =
    found_units c.args.project.now (table_view c.args.table.now) c.in-Some.values.now c.in_ok-units.units c.in-Some.ensures (sym c.if-is_empty.ensures) c.in_ok-units.ensures
