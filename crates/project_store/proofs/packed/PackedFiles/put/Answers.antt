use Rattle.std.proofs.Common.{◌≡◌, ◌<◌, ◌+◌, [], length, inl, inr, ⊎_elim, refl, sym, arith}
use Rattle.text_edits.specs.Files.{PlainFile, lookup_of}
use Rattle.project_store.specs.Room.{LacksRoom}
use Rattle.project_store.specs.PackedFiles.{files_of, spare_names, spare_bytes}
use Rattle.project_store.proofs.FirstNamed.{IsFirst-found, IsFirst-length, IsFirst-name, lookup-absent, PutsFile-replaced, PutsFile-added}
use Rattle.project_store.proofs.PackedLemmas.{on_err}
use Rattle.project_store.proofs.packed.PackedFiles.put.Goals as goal

pub replace-requires : goal.replace-requires
replace-requires c =
    let files = files_of c.args.self.now in
    IsFirst-length c.args.name.now files c.in-Some.at (IsFirst-found c.args.name.now files c.in-Some.at (sym c.in-Some.ensures))

pub returns-in_ok-replace-in-Some-clause-ok : goal.returns-in_ok-replace-in-Some-clause-ok
returns-in_ok-replace-in-Some-clause-ok c =
    let files = files_of c.args.self.now in
    let at = c.in-Some.at in
    let d : PlainFile = record { name = []; bytes = [] } in
    let found = sym c.in-Some.ensures in
    let named = IsFirst-name c.args.name.now files at d (IsFirst-found c.args.name.now files at found) in
    rw (c.in_ok-replace-in-Some.ensures.ok d) (PutsFile-replaced c.args.name.now files at _ found named)

pub returns-in_ok-add-in-None-clause-ok : goal.returns-in_ok-add-in-None-clause-ok
returns-in_ok-add-in-None-clause-ok c =
    let files = files_of c.args.self.now in
    rw c.in_ok-add-in-None.ensures.ok (PutsFile-added c.args.name.now files record { name = c.args.name.now; bytes = c.args.bytes.now } (sym c.in-None.ensures) refl)

pub returns-in_err-add-in-None-clause-full : goal.returns-in_err-add-in-None-clause-full
returns-in_err-add-in-None-clause-full c =
    let self = c.args.self.now in
    let absent = lookup-absent c.args.name.now (files_of self) 0 (sym c.in-None.ensures) in
    let lacks : LacksRoom (lookup_of (files_of self) c.args.name.now) (spare_names self) (spare_bytes self) (length c.args.name.now + length c.args.bytes.now) =
    rw absent (⊎_elim (λ (none : spare_names self ≡ 0). inl (omega arith)) (λ (few : spare_bytes self < length c.args.name.now + length c.args.bytes.now). inr few) c.in_err-add-in-None.ensures.full) in
    on_err _ lacks

pub returns-in_ok-add-in-None-clause-names : goal.returns-in_ok-add-in-None-clause-names
returns-in_ok-add-in-None-clause-names c =
    rw (lookup-absent c.args.name.now (files_of c.args.self.now) 0 (sym c.in-None.ensures)) c.in_ok-add-in-None.ensures.names
