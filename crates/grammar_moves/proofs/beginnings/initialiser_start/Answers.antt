use Rattle.std.proofs.Common.{◌∙◌, sym}
use Rattle.grammar_moves.proofs.StartLemmas.{begins_initialiser-other}
use Rattle.grammar_moves.proofs.beginnings.initialiser_start.Goals as goal

pub returns-in_default : goal.returns-in_default
returns-in_default c = c.expression_start.ensures ∙ sym (begins_initialiser-other c.args.token c.in_default.not-OpenBrace)
