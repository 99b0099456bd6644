use Rattle.std.proofs.Common.{◌∙◌, sym}
use Rattle.grammar_moves.proofs.StartLemmas.{begins_statement-other}
use Rattle.grammar_moves.proofs.beginnings.statement_start.Goals as goal

pub returns-in_default : goal.returns-in_default
returns-in_default c =
    let n = c.in_default in
    c.expression_in.ensures
    ∙ sym (begins_statement-other c.args.token n.not-OpenBrace n.not-Semicolon n.not-If n.not-While n.not-Do n.not-For n.not-Jump n.not-Return)
