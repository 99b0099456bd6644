use Rattle.std.proofs.Common.{◌||◌, sym, ap, ◌∙◌}
use Rattle.std.proofs.lemmas.Result.{IfOk-weaker}
use Rattle.c_types.specs.Types.{plain_type}
use Rattle.conditional.specs.Judgements.{bind}
use Rattle.choice_trees.specs.ChoiceTrees.{semicolon}
use Rattle.conditional_steps.specs.Here.{is_refused}
use Rattle.operand_types.specs.Operators.{fitted_type}
use Rattle.cond_statements.proofs.results.type_refused.Goals as goal

pub returns-then-is_void : goal.returns-then-is_void
returns-then-is_void c =
    IfOk-weaker c.always.result _ _ (λ f always on x shows.
    always on ∙ sym (ap (λ b. b || is_refused (bind x (fitted_type semicolon (plain_type c.args.ty.now)))) (sym c.is_void.ensures ∙ c.if-is_void.true))) c.always.ensures

pub returns : goal.returns
returns c =
    IfOk-weaker c.where_unfit.result _ _ (λ f refusing on x shows.
    refusing on x shows ∙ sym (ap (λ b. b || is_refused (bind x (fitted_type semicolon (plain_type c.args.ty.now)))) (sym c.is_void.ensures ∙ c.if-is_void.false))) c.where_unfit.ensures
