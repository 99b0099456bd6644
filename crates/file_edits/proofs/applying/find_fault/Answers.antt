use Rattle.std.proofs.Common.{sym, ap, ◌∙◌, map}
use Rattle.text_edits.specs.Files.{plain_files}
use Rattle.file_edits.specs.Faults as spec
use Rattle.file_edits.specs.Places.{plain_edit}
use Rattle.file_edits.proofs.FaultLemmas.{position-map}
use Rattle.file_edits.proofs.applying.find_fault.Goals as goal

pub returns-in-Some : goal.returns-in-Some
returns-in-Some c =
    let files = plain_files c.args.files.now in
    let edits = c.args.edits.now in
    ap (λ found. spec.or_past_end found (spec.overlap_of (map plain_edit edits))) (position-map (spec.is_past_end files) plain_edit edits ∙ sym c.past_end.ensures ∙ c.in-Some.is)

pub returns-in-Some-overlap : goal.returns-in-Some-overlap
returns-in-Some-overlap c =
    let files = plain_files c.args.files.now in
    let edits = c.args.edits.now in
    ap (λ found. spec.or_past_end found (spec.overlap_of (map plain_edit edits))) (position-map (spec.is_past_end files) plain_edit edits ∙ sym c.past_end.ensures ∙ c.in_default.is)
    ∙ sym c.in-Some-overlap.ensures.places

pub returns : goal.returns
returns c =
    let files = plain_files c.args.files.now in
    let edits = c.args.edits.now in
    ap (λ found. spec.or_past_end found (spec.overlap_of (map plain_edit edits))) (position-map (spec.is_past_end files) plain_edit edits ∙ sym c.past_end.ensures ∙ c.in_default.is)
    ∙ sym c.in_default-overlap.ensures.places
