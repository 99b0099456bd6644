use Rattle.std.proofs.Common.{sym, subst, lit<}
use Rattle.std.proofs.lemmas.Result.{IfOk-weaker}
use Rattle.cond_formula.specs.Conditions.{VarsBelow}
use Rattle.cond_formula.specs.ConditionLaws.{condition_of-True, condition_of-Var}
use Rattle.condition_cases.proofs.classes.formula.Goals as goal

pub returns-in-Always : goal.returns-in-Always
returns-in-Always c = subst (VarsBelow 128) (sym condition_of-True) tt

pub returns-in-On : goal.returns-in-On
returns-in-On c = subst (VarsBelow 128) (sym (condition_of-Var 0)) (lit< tt)

pub returns-in-Off : goal.returns-in-Off
returns-in-Off c = IfOk-weaker c.not.result _ _ (λ f is. is.below 128 (subst (VarsBelow 128) (sym (condition_of-Var 0)) (lit< tt))) c.not.ensures
