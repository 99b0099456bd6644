use Rattle.std.proofs.Common.{◌+◌, ap, refl}
use Rattle.quick_rename.proofs.FrontLengths.{token_word_fault, token_mark_fault, token_end_fault}
use Rattle.quick_rename.proofs.fault.token_fault.Goals as goal

pub returns-in-Some-Word-default : goal.returns-in-Some-Word-default
returns-in-Some-Word-default c =
    let h = c.in-Some-Word-default in
    let w = rw h.field-0-0-is at h.ensures in
    token_word_fault c.names_are_alike.ensures c.numbers_are_alike.ensures c.malformed_is_refused.ensures c.args.parser.now c.args.text.now h.word.now h.rest.now _ c.token_len.result _
    c.requires w.some w.bytes (ap (λ m. m + c.token_len.result) c.piece_start.ensures) c.token_len.ensures

pub returns-in-Some-Other-default : goal.returns-in-Some-Other-default
returns-in-Some-Other-default c =
    let h = c.in-Some-Other-default in
    let w = rw h.field-0-0-is at h.ensures in
    token_mark_fault c.args.parser.now c.args.text.now h.field-0-0-0 h.rest.now _ _ c.requires w.some w.bytes w.solid c.piece_start-in-Some-Other-default.ensures

pub returns-in-None : goal.returns-in-None
returns-in-None c = token_end_fault c.args.parser.now c.args.text.now (c.in-None.ensures.none.0 refl)
