use Rattle.std.proofs.Common.{List, map, take, drop, suc, refl, sym, subst}
use Rattle.text_edits.specs.Files.{PlainFile, plain_file}
use Rattle.command_promises.specs.Giving.{WroteAll, WrotePart}
use Rattle.command_promises.proofs.Writing.{next_file, split_at_file, wrote_more, wrote_part, on_err_known}
use Rattle.command_promises.proofs.write.write_all.Goals as goal

pub returns-in_err-write-clause-part : goal.returns-in_err-write-clause-part
returns-in_err-write-clause-part g c =
    let s = g.S.Store.state c.args.store.now in
    let t = g.S.Store.state c.loop-file.store in
    let u = g.S.Store.state c.write.new.self in
    let files = c.args.files.now in
    let i = c.loop-file.file-index in
    let e = c.in_err-write.ensures in
    let split = split_at_file files i c.file-item.result c.as_str.result.now c.as_slice.result.now c.loop-file-test.true c.file-item.is c.as_str.ensures.value c.as_slice.ensures.value in
    on_err_known c.from_residual.result
    (subst (λ (all : List PlainFile). WrotePart s all u) (sym split)
    (wrote_part s t u (map plain_file (take i files)) c.as_str.result.now c.as_slice.result.now (map plain_file (drop (suc i) files)) c.loop-file.invariant e.err (e.cause.rose refl) e.read_faults e.full))

pub loop-file-preserved : goal.loop-file-preserved
loop-file-preserved g c =
    let s = g.S.Store.state c.args.store.now in
    let t = g.S.Store.state c.loop-file.store in
    let u = g.S.Store.state c.write.new.self in
    let files = c.args.files.now in
    let i = c.loop-file.file-index in
    let e = c.in_ok-write.ensures in
    let next = next_file files i c.file-item.result c.as_str.result.now c.as_slice.result.now c.loop-file-test.true c.file-item.is c.as_str.ensures.value c.as_slice.ensures.value in
    subst (λ (all : List PlainFile). WroteAll s all u) (sym next)
    (wrote_more s t u (map plain_file (take i files)) c.as_str.result.now c.as_slice.result.now c.loop-file.invariant e.ok e.told e.exact e.cause (λ bad. cc) e.read_faults e.room_told e.names e.room)
