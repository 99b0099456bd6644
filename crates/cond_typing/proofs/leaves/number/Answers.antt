use Rattle.std.proofs.Common.{ap, ◌∙◌, subst}
use Rattle.c_text.specs.Token.{plain_token}
use Rattle.c_text.specs.Constants.{number_value}
use Rattle.c_types.specs.Types.{plain_type}
use Rattle.core_meaning.specs.Expressions.{number_type}
use Rattle.conditional.specs.Judgements.{fine}
use Rattle.cond_operands.specs.Operands.{ShowsOperand}
use Rattle.cond_typing.proofs.Constants.{number_seen}
use Rattle.cond_typing.proofs.leaves.number.Goals as goal

pub returns : goal.returns
returns c = λ on.
    subst (λ o. ShowsOperand on (fine o) c.in_ok-one.one)
    (number_seen (plain_token c.args.token.now) (plain_type c.type_of_number.result) c.in-Some.value
    (c.type_of_number.ensures ∙ ap number_type c.as_slice-text.ensures.value) (c.in-Some.ensures ∙ ap number_value c.as_slice-text.ensures.value)) (c.in_ok-one.ensures on)
