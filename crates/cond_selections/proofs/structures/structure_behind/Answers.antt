use Rattle.std.proofs.Common.{sym, ◌∙◌}
use Rattle.std.proofs.lemmas.Result.{IfOk-weaker}
use Rattle.c_text.specs.Token.{plain_token}
use Rattle.choice_trees.specs.ChoiceTrees.{semicolon}
use Rattle.conditional.specs.Judgements.{bind}
use Rattle.operand_types.specs.Operators.{loaded_type}
use Rattle.selections.specs.Selections.{structure_of_type, structure_pointed_at}
use Rattle.cond_selections.proofs.Behind.{judging, behind_dot, behind_arrow}
use Rattle.cond_selections.proofs.structures.structure_behind.Goals as goal

pub returns-then-is_dot : goal.returns-then-is_dot
returns-then-is_dot c =
    IfOk-weaker c.judged.result _ _ (λ z shows on x seen_so.
    behind_dot on (plain_token c.args.select.now) x z (sym c.if-is_dot.true ∙ c.is_dot.ensures)
    (shows (judging structure_of_type) (record { maps = λ a r answers. answers }) on x seen_so)) c.judged.ensures

pub returns-in_ok-value : goal.returns-in_ok-value
returns-in_ok-value c =
    IfOk-weaker c.judged-else-is_dot.result _ _ (λ z shows on x seen_so.
    behind_arrow on (plain_token c.args.select.now) x z (sym c.if-is_dot.false ∙ c.is_dot.ensures)
    (shows (judging structure_pointed_at) (record { maps = λ a r answers. answers }) on (bind x (loaded_type semicolon)) (c.in_ok-value.ensures semicolon on x seen_so))) c.judged-else-is_dot.ensures
