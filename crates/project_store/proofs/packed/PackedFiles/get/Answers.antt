use Rattle.std.proofs.Common.{◌<◌, length, Some, sym, ◌∙◌, ap, arith}
use Rattle.std.proofs.lemmas.List.{length-map, get_or-map}
use Rattle.project_store.specs.declared.packed.Entry.{Entry}
use Rattle.project_store.specs.Packed.{bytes_at, file_at, files_at}
use Rattle.project_store.proofs.FirstNamed.{IsFirst-found, IsFirst-length, lookup-first, lookup-absent}
use Rattle.project_store.proofs.PackedLemmas.{IsPieceWithin-more}
use Rattle.project_store.proofs.packed.PackedFiles.get.Goals as goal

pub returns-in_err-at : goal.returns-in_err-at
returns-in_err-at c =
    let files = files_at c.args.self.now.buffer.items c.args.self.now.entries.items in
    rw c.from_residual.ensures (sym (lookup-absent c.args.name.now files 0 (sym c.in_err-at.ensures)))

pub index-requires : goal.index-requires
index-requires c =
    let files = files_at c.args.self.now.buffer.items c.args.self.now.entries.items in
    let fits = IsFirst-length c.args.name.now files c.in_ok-at.at (IsFirst-found c.args.name.now files c.in_ok-at.at (sym c.in_ok-at.ensures)) in
    omega (arith, fits, length-map c.args.self.now.entries.items (file_at c.args.self.now.buffer.items), c.args.self.now.entries.ok.0)

pub bytes_of-requires : goal.bytes_of-requires
bytes_of-requires c =
    let entries = c.args.self.now.entries.items in
    let files = files_at c.args.self.now.buffer.items entries in
    let fits = IsFirst-length c.args.name.now files c.in_ok-at.at (IsFirst-found c.args.name.now files c.in_ok-at.at (sym c.in_ok-at.ensures)) in
    let inside : c.in_ok-at.at < length entries = omega (arith, fits, length-map entries (file_at c.args.self.now.buffer.items)) in
    let within = rw (← c.index.ensures) at (c.args.self.now.within c.in_ok-at.at c.index.result.now inside) in
    IsPieceWithin-more _ _ c.index.result.now.content (omega (arith, c.deref.ensures.len)) within.content

pub returns : goal.returns
returns c =
    let buffer = c.args.self.now.buffer.items in
    let entries = c.args.self.now.entries.items in
    let at = c.in_ok-at.at in
    let file = file_at buffer c.index.result.now in
    let first = IsFirst-found c.args.name.now (files_at buffer entries) at (sym c.in_ok-at.ensures) in
    let fits = IsFirst-length c.args.name.now (files_at buffer entries) at first in
    let content = lookup-first c.args.name.now (files_at buffer entries) at file first in
    let there = get_or-map (file_at buffer) entries at c.index.result.now file (omega (arith, fits, length-map entries (file_at buffer))) in
    rw (c.bytes_of.ensures, c.deref.ensures.value) (ap (λ (e : Entry). Some (bytes_at buffer e.content)) c.index.ensures ∙ ap (λ f. Some f.bytes) (sym there) ∙ sym content)
