use Rattle.std.proofs.Common.{◌≡◌, ℕ, List, [], Bor, get_or, map, ◌∙◌}
use Rattle.std.proofs.lemmas.List.{map-append}
use Rattle.std.proofs.lemmas.Result.{err_from_is_err_and}
use Rattle.text_edits.specs.Files.{plain_file}
use Rattle.project_store.specs.States.{IsAbsent}
use Rattle.project_store.specs.Reads.{IsTooLong, HasAbsent, IsLong}
use Rattle.project_store.proofs.ReadLemmas.{text_of, Why-weaker, first_long, has_absent, files_more, alone_then, get_or-self}
use Rattle.project_store.proofs.reads.read_all.Goals as goal

pub returns-in_err-file-clause-read : goal.returns-in_err-file-clause-read
returns-in_err-file-clause-read g c =
    let m = g.S.Store in
    let s = m.state c.args.store.now in
    let t = m.state c.loop-name.store in
    let names = c.args.names.now in
    let i = c.loop-name.name-index in
    let name : Bor (List ℕ) = get_or names i (record { ref_ptr = (0, 0); now = [] }) in
    let is : name ≡ get_or names i name = get_or-self names i (record { ref_ptr = (0, 0); now = [] }) c.loop-name-test.true in
    let kept = c.loop-name.invariant.alone in
    let p = err_from_is_err_and c.from_residual.result c.from_residual.ensures.1 in
    rw (p.1, p.2)
    (Why-weaker (IsLong t name.now) (IsTooLong s (map text_of names)) (IsAbsent t name.now) (HasAbsent s (map text_of names)) c.in_err-file.field-0.0
    (first_long s t names i name (map plain_file c.loop-name.list.items) c.loop-name-test.true is kept c.loop-name.invariant.read)
    (has_absent s t names i name (map plain_file c.loop-name.list.items) c.loop-name-test.true is (g.met.S.Store.room_is_told c.args.store.now) kept c.loop-name.invariant.read)
    c.in_err-file.ensures.source)

pub loop-name-preserved : goal.loop-name-preserved
loop-name-preserved g c =
    let m = g.S.Store in
    let s = m.state c.args.store.now in
    let t = m.state c.loop-name.store in
    let names = c.args.names.now in
    let i = c.loop-name.name-index in
    let name : Bor (List ℕ) = get_or names i (record { ref_ptr = (0, 0); now = [] }) in
    let is : name ≡ get_or names i name = get_or-self names i (record { ref_ptr = (0, 0); now = [] }) c.loop-name-test.true in
    let kept = c.loop-name.invariant.alone in
    record {
      read =
          rw (c.in_ok-push.ensures.items, map-append)
          (files_more s t names i name (map plain_file c.loop-name.list.items) (plain_file c.in_ok-file.file) c.loop-name-test.true is kept c.loop-name.invariant.read c.in_ok-file.ensures.source);
      alone =
          alone_then s t (m.state c.read_file.new.store) kept c.in_ok-file.ensures.kept;
      none = λ e. c.in_ok-file.ensures.cause.stood (kept.exact e) (λ bad. cc) ∙ c.loop-name.invariant.none e;
    }
