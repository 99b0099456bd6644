use Rattle.std.proofs.Common.{◌≡◌, map, Some, None, sym, ◌∙◌, ap, arith}
use Rattle.std.specs.List.{position_from}
use Rattle.std.specs.String.{string_bytes}
use Rattle.std.proofs.lemmas.List.{length-map, get_or-map, map-set, map-append}
use Rattle.text_edits.specs.Files.{plain_file}
use Rattle.project_store.specs.Named.{has_name}
use Rattle.project_store.proofs.FirstNamed.{place_in_map, IsFirst-found, IsFirst-length, IsFirst-name, PutsFile-replaced, PutsFile-added}
use Rattle.project_store.proofs.lookup.put.Goals as goal

pub index_mut-requires : goal.index_mut-requires
index_mut-requires c =
    let files = map plain_file c.args.files.now.list.items in
    let found : position_from (has_name c.args.name.now) 0 files ≡ Some c.in-Some.at = place_in_map _ plain_file 0 c.args.files.now.list.items ∙ cc c.in-Some.ensures in
    let fits = IsFirst-length c.args.name.now files c.in-Some.at (IsFirst-found c.args.name.now files c.in-Some.at found) in
    omega (arith, fits, length-map c.args.files.now.list.items plain_file, c.args.files.now.list.ok.0)

pub returns-in-Some-clause-ok : goal.returns-in-Some-clause-ok
returns-in-Some-clause-ok c =
    let items = c.args.files.now.list.items in
    let name = c.args.name.now in
    let at = c.in-Some.at in
    let was = c.index_mut.result.now in
    let found : position_from (has_name name) 0 (map plain_file items) ≡ Some at = place_in_map _ plain_file 0 c.args.files.now.list.items ∙ cc c.in-Some.ensures in
    let first = IsFirst-found name (map plain_file items) at found in
    let fits = IsFirst-length name (map plain_file items) at first in
    let there = get_or-map plain_file items at was (plain_file was) (omega (arith, fits, length-map items plain_file)) in
    let named = ap (λ f. string_bytes f.name) c.index_mut.ensures.value ∙ ap (λ f. f.name) (sym there) ∙ IsFirst-name name (map plain_file items) at (plain_file was) first in
    rw (← c.in_ok-bytes.ensures.items, map-set plain_file items at record { name = was.name; bytes = c.in_ok-bytes.bytes }) (PutsFile-replaced name (map plain_file items) at record { name = string_bytes was.name; bytes = c.in_ok-bytes.bytes.items } found named)

pub returns-in_ok-push-in-None-clause-ok : goal.returns-in_ok-push-in-None-clause-ok
returns-in_ok-push-in-None-clause-ok c =
    let items = c.args.files.now.list.items in
    let name = c.args.name.now in
    let none : position_from (has_name name) 0 (map plain_file items) ≡ None = place_in_map _ plain_file 0 c.args.files.now.list.items ∙ cc c.in-None.ensures in
    rw (c.in_ok-push-in-None.ensures.items, ← c.in_ok-bytes.ensures.items, map-append plain_file items) (PutsFile-added name (map plain_file items) record { name = string_bytes c.in_ok-name-in-None.name; bytes = c.in_ok-bytes.bytes.items } none c.in_ok-name-in-None.ensures.ok)
