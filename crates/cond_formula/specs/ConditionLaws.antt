-- Laws, not part of the meaning:
-- What each kind of formula says, and what a condition's value depends on.
use Rattle.std.proofs.Common.{◌≡◌, ℕ, ◌<◌, ◌≤◌, Bool, not, refl, sym, ap, ◌∙◌, arith}
use Rattle.std.specs.declared.alloc.Global.{Global}
use Rattle.std.specs.Prelude.{Vec, Box}
use Rattle.cond_formula.specs.declared.formulas.Formula.{Formula, True, False, Var, Not, And, Or}
use Rattle.cond_formula.specs.declared.formulas.Formula.TheVariants.{rolls-True, rolls-False, rolls-Var, rolls-Not, rolls-And, rolls-Or}
use Rattle.cond_formula.specs.declared.formulas.Formula.TheFolds.{fold-roll-Formula}
use Rattle.cond_formula.specs.declared.formulas.Formula.TheOpen as level
use Rattle.cond_formula.specs.Conditions.{Condition, Conditions, Always, Never, Feature, Inverse, All_of, Any_of, none, more, condition_of, conditions_of, one_level, value, all_true, any_true, VarsBelow, AllVarsBelow}

pub condition_of-True : condition_of True ≡ Always
unfolding condition_of
condition_of-True = ap condition_of (sym rolls-True) ∙ fold-roll-Formula Condition one_level level.True

pub condition_of-False : condition_of False ≡ Never
unfolding condition_of
condition_of-False = ap condition_of (sym rolls-False) ∙ fold-roll-Formula Condition one_level level.False

pub condition_of-Var : (feature : ℕ) → condition_of (Var feature) ≡ Feature feature
unfolding condition_of
condition_of-Var feature = ap condition_of (sym (rolls-Var feature)) ∙ fold-roll-Formula Condition one_level (level.Var feature)

pub condition_of-Not : (inner : Box Formula Global) → condition_of (Not inner) ≡ Inverse (condition_of inner.value)
unfolding condition_of
condition_of-Not inner = ap condition_of (sym (rolls-Not inner)) ∙ fold-roll-Formula Condition one_level (level.Not inner)

pub condition_of-And : (parts : Vec Formula Global) → condition_of (And parts) ≡ All_of (conditions_of parts.items)
unfolding condition_of
condition_of-And parts = ap condition_of (sym (rolls-And parts)) ∙ fold-roll-Formula Condition one_level (level.And parts)

pub condition_of-Or : (parts : Vec Formula Global) → condition_of (Or parts) ≡ Any_of (conditions_of parts.items)
unfolding condition_of
condition_of-Or parts = ap condition_of (sym (rolls-Or parts)) ∙ fold-roll-Formula Condition one_level (level.Or parts)

-- what each kind of formula says
pub ruleset formula_kinds = (condition_of-True, condition_of-False, condition_of-Var, condition_of-Not, condition_of-And, condition_of-Or)

-- a condition's value depends on the features that it names alone
module _ (count : ℕ) (on other : ℕ → Bool) (same : (feature : ℕ) → feature < count → on feature ≡ other feature) where
  mutual
    pub value_same_below : (condition : Condition) → VarsBelow count condition → value on condition ≡ value other condition
    value_same_below Always below = refl
    value_same_below Never below = refl
    value_same_below (Feature feature) below = same feature below
    value_same_below (Inverse inner) below = ap not (value_same_below inner below)
    value_same_below (All_of parts) below = all_same_below parts below
    value_same_below (Any_of parts) below = any_same_below parts below

    pub all_same_below : (parts : Conditions) → AllVarsBelow count parts → all_true on parts ≡ all_true other parts
    all_same_below none below = refl
    all_same_below (more part rest) below = rw (value_same_below part below.0, all_same_below rest below.1)

    pub any_same_below : (parts : Conditions) → AllVarsBelow count parts → any_true on parts ≡ any_true other parts
    any_same_below none below = refl
    any_same_below (more part rest) below = rw (value_same_below part below.0, any_same_below rest below.1)

-- a bound may be raised
module _ (count larger : ℕ) (le : count ≤ larger) where
  mutual
    pub VarsBelow-raised : (condition : Condition) → VarsBelow count condition → VarsBelow larger condition
    VarsBelow-raised Always below = tt
    VarsBelow-raised Never below = tt
    VarsBelow-raised (Feature feature) below = omega arith
    VarsBelow-raised (Inverse inner) below = VarsBelow-raised inner below
    VarsBelow-raised (All_of parts) below = AllVarsBelow-raised parts below
    VarsBelow-raised (Any_of parts) below = AllVarsBelow-raised parts below

    pub AllVarsBelow-raised : (parts : Conditions) → AllVarsBelow count parts → AllVarsBelow larger parts
    AllVarsBelow-raised none below = tt
    AllVarsBelow-raised (more part rest) below = (VarsBelow-raised part below.0, AllVarsBelow-raised rest below.1)
