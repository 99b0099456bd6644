use Rattle.std.proofs.Common.{◌≡◌, ◌+◌, [], ◌∷◌, ℕ, List, Bool, true, false, codes, refl, sym, ◌∙◌, ap, subst}
use Rattle.std.specs.Str.{bytes_eq}
use Rattle.quick_form.specs.Symbols.{Word, Other}
use Rattle.quick_rename.specs.Cuts.{Cut, takes_line}
use Rattle.quick_rename.specs.Fronts.{begins_directive}
use Rattle.quick_rename.proofs.WordFaults.{same_bytes}
use Rattle.quick_rename.proofs.DirectiveFaults.{front_fault, after_fault, cut_behind, directive_starts, directive_goes_on, directive_dead, directive_whole, bare_taken, behind_bare_directive}
use Rattle.quick_rename.proofs.fault.word_fault.Goals as goal

is_ifdef : (w k : List ℕ) (r t : Bool) → k ≡ codes "ifdef" → r ≡ bytes_eq w k → r ≡ t → bytes_eq w (codes "ifdef") ≡ t
is_ifdef w k r t e f g = ap (bytes_eq w) (sym e) ∙ (sym f ∙ g)

pub test_fault-requires-clause-cut : goal.test_fault-requires-clause-cut
test_fault-requires-clause-cut c =
    subst (λ w. Cut c.args.line.now c.args.rest.now (Other 35 ∷ Word w ∷ [])) (same_bytes c.args.word.now (codes "ifdef") (is_ifdef c.args.word.now _ _ true c.as_slice.ensures c.eq.ensures c.if-eq.true))
    (cut_behind c.args.line.now c.args.text.now (Other 35 ∷ []) (Word c.args.word.now) c.args.rest.now c.requires.cut c.requires.begins refl)

pub returns-then-is_bare_directive : goal.returns-then-is_bare_directive
returns-then-is_bare_directive c =
    let s = c.args.parser.now in
    let word = c.args.word.now in
    let other : bytes_eq word (codes "ifdef") ≡ false = is_ifdef word _ _ false c.as_slice.ensures c.eq.ensures c.if-eq.false in
    let cut = cut_behind c.args.line.now c.args.text.now (Other 35 ∷ []) (Word word) c.args.rest.now c.requires.cut c.requires.begins refl in
    after_fault (takes_line s) c.args.line.now c.args.rest.now (Other 35 ∷ Word word ∷ []) _ cut c.next_start.ensures
    (bare_taken s word (sym c.is_bare_directive.ensures ∙ c.if-is_bare_directive.true)) (λ q qs. behind_bare_directive c.malformed_is_refused.ensures s word other q qs)

pub returns-else-is_bare_directive : goal.returns-else-is_bare_directive
returns-else-is_bare_directive c =
    let s = c.args.parser.now in
    let word = c.args.word.now in
    let tests = c.tests_stand_at_entries.ensures in
    let bad = c.malformed_is_refused.ensures in
    let other : bytes_eq word (codes "ifdef") ≡ false = is_ifdef word _ _ false c.as_slice.ensures c.eq.ensures c.if-eq.false in
    front_fault (takes_line s) (begins_directive s) c.args.line.now c.args.text.now (Other 35 ∷ []) word c.args.rest.now c.directive_len.result _ c.requires.cut c.requires.begins
    (ap (λ m. m + c.directive_len.result) c.piece_start.ensures) c.directive_len.ensures
    (directive_starts tests s c.requires.entry c.requires.names) (directive_goes_on tests s c.requires.entry c.requires.names) (λ u x qs b none. directive_dead bad s u x qs none)
    (λ e qs. directive_whole bad s word other (sym c.is_bare_directive.ensures ∙ c.if-is_bare_directive.false) qs)
