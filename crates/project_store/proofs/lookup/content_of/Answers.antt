use Rattle.std.proofs.Common.{◌≡◌, map, Some, None, sym, ◌∙◌, ap, arith}
use Rattle.std.specs.List.{position_from}
use Rattle.std.proofs.lemmas.List.{length-map, get_or-map}
use Rattle.text_edits.specs.Files.{plain_file}
use Rattle.project_store.specs.Named.{has_name}
use Rattle.project_store.proofs.FirstNamed.{place_in_map, IsFirst-found, IsFirst-length, lookup-first, lookup-absent}
use Rattle.project_store.proofs.lookup.content_of.Goals as goal

pub returns-in_err-at : goal.returns-in_err-at
returns-in_err-at c =
    let none : position_from (has_name c.args.name.now) 0 (map plain_file c.args.files.now.list.items) ≡ None = place_in_map _ plain_file 0 c.args.files.now.list.items ∙ cc c.in_err-at.was in
    rw c.from_residual.ensures (sym (lookup-absent c.args.name.now (map plain_file c.args.files.now.list.items) 0 none))

pub index-requires : goal.index-requires
index-requires c =
    let files = map plain_file c.args.files.now.list.items in
    let found : position_from (has_name c.args.name.now) 0 files ≡ Some c.in_ok-at.at = place_in_map _ plain_file 0 c.args.files.now.list.items ∙ cc c.in_ok-at.ensures in
    let fits = IsFirst-length c.args.name.now files c.in_ok-at.at (IsFirst-found c.args.name.now files c.in_ok-at.at found) in
    omega (arith, fits, length-map c.args.files.now.list.items plain_file, c.args.files.now.list.ok.0)

pub returns : goal.returns
returns c =
    let files = map plain_file c.args.files.now.list.items in
    let file = plain_file c.index.result.now in
    let found : position_from (has_name c.args.name.now) 0 files ≡ Some c.in_ok-at.at = place_in_map _ plain_file 0 c.args.files.now.list.items ∙ cc c.in_ok-at.ensures in
    let first = IsFirst-found c.args.name.now files c.in_ok-at.at found in
    let fits = IsFirst-length c.args.name.now files c.in_ok-at.at first in
    let content = lookup-first c.args.name.now files c.in_ok-at.at file first in
    let there = get_or-map plain_file c.args.files.now.list.items c.in_ok-at.at c.index.result.now file (omega (arith, fits, length-map c.args.files.now.list.items plain_file)) in
    rw c.as_slice.ensures.value (ap (λ f. Some f.bytes.items) c.index.ensures ∙ ap (λ f. Some f.bytes) (sym there) ∙ sym content)
