use Rattle.std.proofs.Common.{codes, refl}
use Rattle.toml.specs.View.{table_view}
use Rattle.project_file.specs.Faults.{shape, bad_constraints, bad_headers, bad_units}
use Rattle.project_file.specs.View.{strings_view}
use Rattle.project_file.specs.Checks.{IsFaultOfShape}
use Rattle.project_file.proofs.Whys.{Why-is}
use Rattle.project_file.proofs.shape.contents_of.Goals as goal

pub returns-in_default-3 : goal.returns-in_default-3
returns-in_default-3 c =
    let features = rw c.in-Some-2.is at c.in_ok-features.ensures in
    let none = rw c.in_default-3.is at c.in_ok-constraints.ensures in
    Why-is (IsFaultOfShape c.args.project.now (table_view c.args.table.now)) (shape (codes "constraints")) c.misshapen-in_default-3.result
    (bad_constraints refl c.in_default.ensures (strings_view c.in-Some-2.features) features none) c.misshapen-in_default-3.ensures

pub returns-in_default-4 : goal.returns-in_default-4
returns-in_default-4 c =
    let features = rw c.in-Some-2.is at c.in_ok-features.ensures in
    let constraints = rw c.in-Some-3.is at c.in_ok-constraints.ensures in
    let none = rw c.in_default-4.is at c.in_ok-headers.ensures in
    Why-is (IsFaultOfShape c.args.project.now (table_view c.args.table.now)) (shape (codes "headers")) c.misshapen-in_default-4.result
    (bad_headers refl c.in_default.ensures (strings_view c.in-Some-2.features) features (strings_view c.in-Some-3.constraints) constraints none) c.misshapen-in_default-4.ensures

pub returns-in_default-5 : goal.returns-in_default-5
returns-in_default-5 c =
    let features = rw c.in-Some-2.is at c.in_ok-features.ensures in
    let constraints = rw c.in-Some-3.is at c.in_ok-constraints.ensures in
    let headers = rw c.in-Some-4.is at c.in_ok-headers.ensures in
    let none = rw c.in_default-5.is at c.in_ok-units.ensures in
    Why-is (IsFaultOfShape c.args.project.now (table_view c.args.table.now)) (shape (codes "unit")) c.misshapen-in_default-5.result
    (bad_units refl c.in_default.ensures (strings_view c.in-Some-2.features) features (strings_view c.in-Some-3.constraints) constraints (strings_view c.in-Some-4.headers) headers none) c.misshapen-in_default-5.ensures
