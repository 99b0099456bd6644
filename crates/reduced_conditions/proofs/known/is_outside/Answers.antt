use Rattle.std.proofs.Common.{◌≡◌, Bool, true, false, IsTrue, refl, ap, ◌∙◌, sym}
use Rattle.std.specs.Prelude.{not}
use Rattle.cond_formula.specs.Conditions.{Condition, condition_of, value}
use Rattle.cond_formula.specs.ConditionLaws.{condition_of-Not}
use Rattle.cond_formula.specs.declared.formulas.Formula.{Formula}
use Rattle.reduced_conditions.proofs.known.is_outside.Goals as goal

inverse-holds : (i o : Bool) → (IsTrue i → IsTrue o) → o ≡ false → IsTrue (not i)
inverse-holds true o h off = sym off ∙ h refl
inverse-holds false o h off = refl

pub returns-in-Not : goal.returns-in-Not
returns-in-Not c =
    λ t on off.
    let inner = c.deref.result.now in
    ap (λ (f : Formula). value on (condition_of f)) c.in-Not.is
    ∙ ap (λ (a : Condition). value on a) (condition_of-Not c.in-Not.inner)
    ∙ ap (λ (f : Formula). not (value on (condition_of f))) (sym c.deref.ensures)
    ∙ inverse-holds (value on (condition_of inner)) (value on (condition_of c.args.other.now)) (c.is_implied.ensures t on) off
