use Rattle.std.proofs.Common.{rules, ◌≡◌, true, false, sym, ap, ◌∙◌, subst}
use Rattle.c_types.specs.TypeLaws.{plain_type-Int}
use Rattle.conditional.specs.Judgements.{fine}
use Rattle.c_text.specs.Token.{plain_token}
use Rattle.cond_operands.specs.Operands.{ShowsOperand}
use Rattle.cond_typing.proofs.Constants.{value_of, character_seen}
use Rattle.cond_typing.proofs.leaves.character.Goals as goal

pub returns : goal.returns
returns c = λ on.
    let is_byte : c.in_ok-is_one_byte.field-0 ≡ true = search rules in
    subst (λ o. ShowsOperand on o c.in_ok-one.one) (ap (λ t. fine (value_of t false true)) plain_type-Int ∙ character_seen (plain_token c.args.token.now) (sym c.in_ok-is_one_byte.ensures ∙ is_byte)) (c.in_ok-one.ensures on)
