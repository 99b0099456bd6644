-- Formulas that a model admits nowhere.
use Rattle.std.proofs.Common.{◌≡◌, ℕ, zero, suc, ◌<◌, List, [], ◌∷◌, ◌++◌, length, get_or, Bool, true, false, ◌&&◌, refl, arith}
use Rattle.cond_formula.specs.Conditions.{Condition, condition_of, value}
use Rattle.cond_formula.specs.declared.formulas.Formula.{Formula}
use Rattle.sat_core.specs.Models.{HasNoModel}
use Rattle.verdict_query.specs.Verdicts.{where_admitted, AreNever}

pub never_at : (admitted : Condition) (fs : List Formula) (i : ℕ) (f : Formula) → i < length fs → f ≡ get_or fs i f → AreNever admitted fs → HasNoModel (where_admitted admitted (condition_of f))
unfolding AreNever
never_at admitted [] i f within is never = absurd (omega arith)
never_at admitted (x ∷ fs) zero f within is never = rw is never.0
never_at admitted (x ∷ fs) (suc i) f within is never = never_at admitted fs i f (omega arith) is never.1

pub never_more : (admitted : Condition) (fs : List Formula) (f : Formula) → AreNever admitted fs → HasNoModel (where_admitted admitted (condition_of f)) → AreNever admitted (fs ++ f ∷ [])
unfolding AreNever
never_more admitted [] f never last = (last, tt)
never_more admitted (x ∷ fs) f never last = (never.0, never_more admitted fs f never.1 last)

pub never_none : (admitted : Condition) (fs : List Formula) → fs ≡ [] → AreNever admitted fs
unfolding AreNever
never_none admitted fs is = rw is tt

both_false : (a b : Bool) → b ≡ false → (a && (b && true)) ≡ false
both_false true b off = rw off refl
both_false false b off = refl

pub never_anywhere : (admitted f : Condition) → ((on : ℕ → Bool) → value on f ≡ false) → HasNoModel (where_admitted admitted f)
never_anywhere admitted f off = λ on. both_false (value on admitted) (value on f) (off on)
