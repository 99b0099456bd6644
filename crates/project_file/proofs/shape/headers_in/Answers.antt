use Rattle.std.proofs.Common.{◌≡◌, sym, string_bytes, true, false}
use Rattle.std.specs.List.{list_all}
use Rattle.toml.specs.View.{table_view}
use Rattle.project_file.specs.Contents.{is_source_name}
use Rattle.project_file.proofs.ShapeLemmas.{bad_name, are_headers}
use Rattle.project_file.proofs.shape.headers_in.Goals as goal

pub returns-then-not-are_source_names : goal.returns-then-not-are_source_names
returns-then-not-are_source_names c =
    let are = rw c.in-Some.is at c.in_ok-headers.ensures in
    let bad : list_all (λ name. is_source_name c.args.project.now (string_bytes name)) c.in-Some.headers.items ≡ false =
    sym (rw c.deref.ensures.value at c.if-not-are_source_names.ensures)
    in
    bad_name c.args.project.now (table_view c.args.table.now) c.in-Some.headers.items are bad

pub returns : goal.returns
returns c =
    let are = rw c.in-Some.is at c.in_ok-headers.ensures in
    let good : list_all (λ name. is_source_name c.args.project.now (string_bytes name)) c.in-Some.headers.items ≡ true =
    sym (rw c.deref.ensures.value at c.if-not-are_source_names.ensures)
    in
    are_headers c.args.project.now (table_view c.args.table.now) c.in-Some.headers.items are good
