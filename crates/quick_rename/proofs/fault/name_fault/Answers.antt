use Rattle.std.proofs.Common.{[], ◌∷◌, refl}
use Rattle.quick_form.specs.Symbols.{Other}
use Rattle.quick_rename.specs.Cuts.{takes_line}
use Rattle.quick_rename.proofs.DirectiveFaults.{piece_fault, last_fault, directive_starts, directive_mark}
use Rattle.quick_rename.proofs.fault.name_fault.Goals as goal

pub returns-in-Some-Other-default : goal.returns-in-Some-Other-default
returns-in-Some-Other-default c =
    let s = c.args.parser.now in
    let h = c.in-Some-Other-default in
    let w = rw h.field-0-0-is at h.ensures in
    piece_fault (takes_line s) c.args.line.now c.args.text.now (Other 35 ∷ []) h.field-0-0-0 h.rest.now _ c.requires.cut w.bytes w.solid c.piece_start.ensures
    (directive_starts c.tests_stand_at_entries.ensures s c.requires.entry c.requires.names) (λ qs. directive_mark c.malformed_is_refused.ensures s h.field-0-0-0 qs)

pub returns-in-None : goal.returns-in-None
returns-in-None c =
    let s = c.args.parser.now in
    last_fault (takes_line s) c.args.line.now c.args.text.now (Other 35 ∷ []) c.requires.cut (c.in-None.ensures.none.0 refl)
    (directive_starts c.tests_stand_at_entries.ensures s c.requires.entry c.requires.names)
