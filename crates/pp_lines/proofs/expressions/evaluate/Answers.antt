use Rattle.std.proofs.Common.{map, ap, ◌∙◌}
use Rattle.c_text.specs.Token.{plain_token}
use Rattle.pp_lines.specs.ExpressionReading.{answer}
use Rattle.pp_lines.specs.ExpressionView.{told}
use Rattle.pp_lines.proofs.ExpressionValues.{tells_number, tells_refusal}
use Rattle.pp_lines.proofs.expressions.evaluate.Goals as goal

pub returns-clause-number : goal.returns-clause-number
returns-clause-number c =
    tells_number (map plain_token c.args.tokens.now) c.value_or_refusal.result
    (c.value_or_refusal.ensures ∙ ap told (c.value_of.ensures ∙ ap answer c.in_ok-outcome.ensures))

pub returns-clause-refused : goal.returns-clause-refused
returns-clause-refused c =
    tells_refusal (map plain_token c.args.tokens.now) c.value_or_refusal.result
    (c.value_or_refusal.ensures ∙ ap told (c.value_of.ensures ∙ ap answer c.in_ok-outcome.ensures))
