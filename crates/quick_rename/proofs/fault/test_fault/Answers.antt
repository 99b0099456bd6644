use Rattle.std.proofs.Common.{◌+◌, [], ◌∷◌, codes, refl, sym, ◌∙◌, ap}
use Rattle.quick_form.specs.Symbols.{Word, Other}
use Rattle.quick_rename.specs.Cuts.{takes_line}
use Rattle.quick_rename.specs.Fronts.{begins_test}
use Rattle.quick_rename.proofs.DirectiveFaults.{front_fault, piece_fault, last_fault, after_fault, cut_behind, test_starts, test_goes_on, test_dead, test_whole, test_mark, behind_test, test_is_taken}
use Rattle.quick_rename.proofs.fault.test_fault.Goals as goal

pub returns-then-may_test : goal.returns-then-may_test
returns-then-may_test c =
    let s = c.args.parser.now in
    let h = c.in-Some-Word-default in
    let w = rw h.field-0-0-is at h.ensures in
    let line = c.args.line.now in
    let name = h.name.now in
    let ps = Other 35 ∷ Word (codes "ifdef") ∷ [] in
    let cut = cut_behind line c.args.text.now ps (Word name) h.rest.now c.requires.cut w.bytes refl in
    after_fault (takes_line s) line h.rest.now (Other 35 ∷ Word (codes "ifdef") ∷ Word name ∷ []) _ cut c.next_start.ensures
    (test_is_taken s name (sym c.may_test.ensures ∙ c.if-may_test.true)) (λ q qs. behind_test c.malformed_is_refused.ensures s name q qs)

pub returns-else-may_test : goal.returns-else-may_test
returns-else-may_test c =
    let s = c.args.parser.now in
    let h = c.in-Some-Word-default in
    let w = rw h.field-0-0-is at h.ensures in
    let tests = c.tests_stand_at_entries.ensures in
    let bad = c.malformed_is_refused.ensures in
    front_fault (takes_line s) (begins_test s) c.args.line.now c.args.text.now (Other 35 ∷ Word (codes "ifdef") ∷ []) h.name.now h.rest.now c.test_len.result _ c.requires.cut w.bytes
    (ap (λ m. m + c.test_len.result) c.piece_start.ensures) c.test_len.ensures
    (test_starts tests s c.requires.entry c.requires.names) (test_goes_on tests s c.requires.entry c.requires.names) (test_dead tests bad s)
    (λ e qs. test_whole bad s h.name.now (sym c.may_test.ensures ∙ c.if-may_test.false) qs)

pub returns-in-Some-Other-default : goal.returns-in-Some-Other-default
returns-in-Some-Other-default c =
    let s = c.args.parser.now in
    let h = c.in-Some-Other-default in
    let w = rw h.field-0-0-is at h.ensures in
    piece_fault (takes_line s) c.args.line.now c.args.text.now (Other 35 ∷ Word (codes "ifdef") ∷ []) h.field-0-0-0 h.rest.now _ c.requires.cut w.bytes w.solid c.piece_start-in-Some-Other-default.ensures
    (test_starts c.tests_stand_at_entries.ensures s c.requires.entry c.requires.names) (λ qs. test_mark c.malformed_is_refused.ensures s h.field-0-0-0 qs)

pub returns-in-None : goal.returns-in-None
returns-in-None c =
    let s = c.args.parser.now in
    last_fault (takes_line s) c.args.line.now c.args.text.now (Other 35 ∷ Word (codes "ifdef") ∷ []) c.requires.cut (c.in-None.ensures.none.0 refl)
    (test_starts c.tests_stand_at_entries.ensures s c.requires.entry c.requires.names)
