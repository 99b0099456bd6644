use Rattle.std.proofs.Common.{sym, subst}
use Rattle.std.specs.Prelude.{IfOk}
use Rattle.cond_formula.specs.Conditions.{condition_of}
use Rattle.rename_op.specs.declared.outcomes.Precondition.{Precondition}
use Rattle.rename_op.specs.Outcomes.{plain_precondition}
use Rattle.rename_op.specs.Asked.{Tells}
use Rattle.rename_op.proofs.breaking.where_caused.Goals as goal

pub returns-in-Broken-clause-tells : goal.returns-in-Broken-clause-tells
returns-in-Broken-clause-tells g c =
    subst (λ (p : Precondition). IfOk c.where_not_accepted.result (λ f. Tells c.args.asked.now (plain_precondition p) (condition_of f))) (sym c.in-Broken.is) c.where_not_accepted.ensures

pub returns-in-InMacroBody-clause-tells : goal.returns-in-InMacroBody-clause-tells
returns-in-InMacroBody-clause-tells g c =
    subst (λ (p : Precondition). IfOk c.where_from_macro_body.result (λ f. Tells c.args.asked.now (plain_precondition p) (condition_of f))) (sym c.in-InMacroBody.is) c.where_from_macro_body.ensures

pub returns-in-MacroName-clause-tells : goal.returns-in-MacroName-clause-tells
returns-in-MacroName-clause-tells g c =
    subst (λ (p : Precondition). IfOk c.where_macro.result (λ f. Tells c.args.asked.now (plain_precondition p) (condition_of f))) (sym c.in-MacroName.is) c.where_macro.ensures.tells

pub returns-in-Fixed-clause-tells : goal.returns-in-Fixed-clause-tells
returns-in-Fixed-clause-tells g c =
    subst (λ (p : Precondition). IfOk c.where_fixed.result (λ f. Tells c.args.asked.now (plain_precondition p) (condition_of f))) (sym c.in-Fixed.is) c.where_fixed.ensures

pub returns-in-Capture-clause-tells : goal.returns-in-Capture-clause-tells
returns-in-Capture-clause-tells g c =
    subst (λ (p : Precondition). IfOk c.where_name_captured.result (λ f. Tells c.args.asked.now (plain_precondition p) (condition_of f))) (sym c.in-Capture.is) c.where_name_captured.ensures.tells
