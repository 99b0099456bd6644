use Rattle.std.proofs.Common.{[], ◌∷◌, refl, sym, ◌∙◌, subst}
use Rattle.quick_form.specs.Symbols.{Other}
use Rattle.quick_lexer.specs.Lines.{BeginsWith}
use Rattle.quick_lexer.specs.View.{piece_view}
use Rattle.quick_rename.specs.Cuts.{Cut, takes_line}
use Rattle.quick_rename.proofs.Cutting.{cut_start}
use Rattle.quick_rename.proofs.DirectiveFaults.{piece_fault, whole_starts, cut_behind, first_is_hash, no_directive}
use Rattle.quick_rename.proofs.fault.directive_fault.Goals as goal

pub name_fault-requires-clause-cut : goal.name_fault-requires-clause-cut
name_fault-requires-clause-cut c =
    let h = c.in-Some in
    let p = piece_view h.field-0-0 in
    let is = first_is_hash c.args.line.now p _ c.requires.directive h.ensures.some in
    subst (λ q. Cut c.args.line.now h.rest.now (q ∷ [])) is (cut_behind c.args.line.now c.args.line.now [] p h.rest.now (cut_start c.args.line.now) h.ensures.bytes h.ensures.solid)

pub returns-else-is_at_entry : goal.returns-else-is_at_entry
returns-else-is_at_entry c =
    let s = c.args.parser.now in
    let h = c.in-Some in
    let line = c.args.line.now in
    let is = first_is_hash line (piece_view h.field-0-0) _ c.requires.directive h.ensures.some in
    let begins : BeginsWith line (Other 35) h.rest.now = subst (λ q. BeginsWith line q h.rest.now) is h.ensures.bytes in
    piece_fault (takes_line s) line line [] 35 h.rest.now _ (cut_start line) begins refl c.piece_start.ensures (whole_starts (takes_line s) [] refl)
    (λ qs. no_directive c.tests_stand_at_entries.ensures c.malformed_is_refused.ensures s qs (sym c.is_at_entry.ensures ∙ c.if-is_at_entry.false))
