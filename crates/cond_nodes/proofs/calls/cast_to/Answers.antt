use Rattle.std.proofs.Common.{Some}
use Rattle.std.proofs.lemmas.Result.{IfOk-weaker}
use Rattle.conditional.specs.Judgements.{bind}
use Rattle.operand_types.specs.Operators.{cast_type}
use Rattle.cond_nodes.proofs.calls.cast_to.Goals as goal

pub returns-clause-shows : goal.returns-clause-shows
returns-clause-shows g c =
    IfOk-weaker c.led_or_refused.result _ _ (λ z shows bracket n ty x admitted stands shown.
    shows n (λ t. bind x (cast_type bracket t)) (Some ty) admitted (record { leads_to = λ w y leads. leads bracket x shown }) stands) c.led_or_refused.ensures.shows
