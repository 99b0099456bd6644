-- The results of `?:`, where what is the null constant is a number.
use Rattle.std.proofs.Common.{◌≡◌, refl, sym}
use Rattle.c_text.specs.Token.{PlainToken}
use Rattle.conditional.specs.Judgements.{fine, refused, bind}
use Rattle.operand_types.specs.Operators.{chosen_type}
use Rattle.operand_rules.specs.Rules.{chosen_rule}
use Rattle.operand_rules.proofs.CombinationRules.{chooses}
use Rattle.cond_operands.specs.Operands.{Judged, HasNumberIfNull}

pub same_choice : (question : PlainToken) (x y : Judged) → HasNumberIfNull x → bind x (λ x. bind y (λ y. chosen_rule x y)) ≡ bind x (λ x. bind y (λ y. chosen_type question x y))
same_choice question (fine o) (fine p) number = sym (chooses question o p number)
same_choice question (fine o) (refused why) number = refl
same_choice question (refused why) y number = refl
