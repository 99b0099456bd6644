use Rattle.std.proofs.Common.{◌∙◌, sym}
use Rattle.grammar_moves.proofs.StartLemmas.{begins_for-other}
use Rattle.grammar_moves.proofs.beginnings.for_start.Goals as goal

pub returns-in_default : goal.returns-in_default
returns-in_default c = c.first_start.ensures ∙ sym (begins_for-other c.args.token c.in_default.not-Semicolon)
