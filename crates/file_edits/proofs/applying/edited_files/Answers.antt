use Rattle.std.proofs.Common.{◌≡◌, ◌<◌, length, get_or, subst}
use Rattle.file_edits.proofs.FaultLemmas.{fault-apart, fault-within}
use Rattle.file_edits.proofs.applying.edited_files.Goals as goal

pub edited_file-requires-clause-within : goal.edited_file-requires-clause-within
edited_file-requires-clause-within c =
    let same = c.deref-file-items.ensures.value in
    fault-within c.args.files.now.list.items c.args.edits.now c.requires c.loop-number.number c.file-item.result
    (subst (λ xs. c.loop-number.number < length xs) same c.loop-number-test.true)
    (subst (λ xs. c.file-item.result ≡ get_or xs c.loop-number.number c.file-item.result) same c.file-item.is)

pub edited_file-requires-clause-apart : goal.edited_file-requires-clause-apart
edited_file-requires-clause-apart c = fault-apart c.args.files.now.list.items c.args.edits.now c.requires
