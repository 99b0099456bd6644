use Rattle.std.proofs.Common.{None, refl, subst}
use Rattle.cond_formula.specs.Features.{has}
use Rattle.c_tree.specs.declared.kinds.Kind.TheVariants as k
use Rattle.conditional.specs.Judgements.{fine}
use Rattle.choice_trees.specs.ChoiceTrees.{plain_choices, parts_at}
use Rattle.cond_operands.specs.Operands.{ShowsOperand}
use Rattle.cond_typing.specs.Texts.{row_length, array_of_length}
use Rattle.cond_typing.proofs.TextRows.{row_typed}
use Rattle.cond_typing.proofs.texts.texts.Goals as goal

pub returns-clause-shows : goal.returns-clause-shows
returns-clause-shows g c = λ n callable known admitted. record {
  outcome =
      subst (λ o. ShowsOperand (has n) o c.in_ok-outcomes.outcomes) (row_typed (parts_at (has n) k.Texts 0 (plain_choices c.args.parts.now)))
      (c.in_ok-outcomes.ensures array_of_length (record { maps = λ a r answers. answers }) (has n) (fine (row_length (parts_at (has n) k.Texts 0 (plain_choices c.args.parts.now)))) (c.in_ok-lengths.ensures.shows n admitted));
  callee = record { number = None; seen = c.nothing.ensures (has n); same = refl };
}
