-- Two alternatives, of which one is taken: what is said of each is said of both.
use Rattle.std.proofs.Common.{◌≡◌, Bool, true, false, not, ◌&&◌, IsTrue, refl, sym, ap, ◌∙◌, subst}
use Rattle.std.specs.Bool.{if◌then◌else◌}
use Rattle.choice_states.specs.States.{Standing}
use Rattle.choice_settling.specs.Steps.{IsSound}

pub both_true : (a b longer : Bool) → longer ≡ (a && b) → IsTrue a → IsTrue b → IsTrue longer
both_true true true longer is x y = is
both_true true false longer is x y = is ∙ y
both_true false b longer is x y = is ∙ x

pub not_true : (b : Bool) → b ≡ false → IsTrue (not b)
not_true true is = sym is
not_true false is = refl

pub one_false : (a b longer : Bool) → longer ≡ (a && b) → b ≡ false → longer ≡ false
one_false true b longer is h = is ∙ h
one_false false b longer is h = is

pub not_false : (b : Bool) → IsTrue b → not b ≡ false
not_false b is = ap not is

-- The alternatives are dealt with one after the other, and neither changes what is seen where the other is taken.
pub in_each : (R : Standing → Standing → Type 0) (taken : Bool) (first first_soon first_new second second_soon second_new old new : Standing)
    → (IsTrue taken → IsSound first → R first first_soon) → (taken ≡ false → IsSound second_soon → R second_soon second_new)
    → (IsTrue taken → first_new ≡ first_soon) → (taken ≡ false → second_soon ≡ second)
    → old ≡ (if taken then first else second) → new ≡ (if taken then first_new else second_new) → IsSound old → R old new
in_each R true first first_soon first_new second second_soon second_new old new one other same_new same_soon was is sound =
    subst (λ s. R s new) (sym was) (subst (λ s. R first s) (sym (is ∙ same_new refl)) (one refl (subst IsSound was sound)))
in_each R false first first_soon first_new second second_soon second_new old new one other same_new same_soon was is sound =
    subst (λ s. R s new) (sym (was ∙ sym (same_soon refl))) (subst (λ s. R second_soon s) (sym is) (other refl (subst IsSound (was ∙ sym (same_soon refl)) sound)))
