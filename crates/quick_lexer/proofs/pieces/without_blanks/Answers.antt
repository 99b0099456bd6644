use Rattle.std.proofs.Common.{drop, ap, ◌∙◌}
use Rattle.std.proofs.lemmas.List.{take_rest}
use Rattle.quick_form.specs.Symbols.{solid_pieces}
use Rattle.quick_lexer.specs.Lines.{begins_with_blank}
use Rattle.quick_lexer.proofs.PieceLemmas.{solid_pieces-drop, begins_with_blank-drop}
use Rattle.quick_lexer.proofs.pieces.without_blanks.Goals as goal

pub returns-clause-solid : goal.returns-clause-solid
returns-clause-solid c =
    let line = c.args.line.now in
    ap solid_pieces (take_rest line c.blank_len.result ∙ ap (λ n. drop n line) c.blank_len.ensures.run)
    ∙ solid_pieces-drop line

pub returns-clause-visible : goal.returns-clause-visible
returns-clause-visible c =
    let line = c.args.line.now in
    ap begins_with_blank (take_rest line c.blank_len.result ∙ ap (λ n. drop n line) c.blank_len.ensures.run)
    ∙ begins_with_blank-drop line
