-- Conditions on sets of features: what a formula says.
use Rattle.std.specs.Prelude.{◌≡◌, ℕ, ◌<◌, Bool, true, false, not, ◌&&◌, ◌||◌, List, [], ◌∷◌, map, IsTrue, ⊤}
use Rattle.cond_formula.specs.declared.formulas.Formula.{Formula}
use Rattle.cond_formula.specs.declared.formulas.Formula.TheOpen.{Formula-F, True, False, Var, Not, And, Or}
use Rattle.cond_formula.specs.declared.formulas.Formula.TheFolds.{fold-Formula}

-- The plain form of a formula: trees without pointers and room.
mutual
  pub data Condition : Type 0 where
    Always : Condition
    Never : Condition
    Feature : ℕ → Condition
    Inverse : Condition → Condition
    All_of : Conditions → Condition
    Any_of : Conditions → Condition

  pub data Conditions : Type 0 where
    none : Conditions
    more : Condition → Conditions → Conditions

-- Whether a condition is true where `on` says which features are on.
abbrev mutual
  pub value : (ℕ → Bool) → Condition → Bool
  value on Always = true
  value on Never = false
  value on (Feature feature) = on feature
  value on (Inverse inner) = not (value on inner)
  value on (All_of parts) = all_true on parts
  value on (Any_of parts) = any_true on parts

  pub all_true : (ℕ → Bool) → Conditions → Bool
  all_true on none = true
  all_true on (more part rest) = value on part && all_true on rest

  pub any_true : (ℕ → Bool) → Conditions → Bool
  any_true on none = false
  any_true on (more part rest) = value on part || any_true on rest

-- Each feature that the condition names is so.
abbrev mutual
  pub EachFeature : (ℕ → Type 0) → Condition → Type 0
  EachFeature Is Always = ⊤
  EachFeature Is Never = ⊤
  EachFeature Is (Feature feature) = Is feature
  EachFeature Is (Inverse inner) = EachFeature Is inner
  EachFeature Is (All_of parts) = EachFeatureOf Is parts
  EachFeature Is (Any_of parts) = EachFeatureOf Is parts

  pub EachFeatureOf : (ℕ → Type 0) → Conditions → Type 0
  EachFeatureOf Is none = ⊤
  EachFeatureOf Is (more part rest) = EachFeature Is part × EachFeatureOf Is rest

-- Each feature that the condition names has a number below this one.
abbrev pub VarsBelow : ℕ → Condition → Type 0
VarsBelow count condition = EachFeature (λ feature. feature < count) condition

abbrev pub AllVarsBelow : ℕ → Conditions → Type 0
AllVarsBelow count parts = EachFeatureOf (λ feature. feature < count) parts

-- each feature that the condition names passes a test
abbrev pub VarsPass : (ℕ → Bool) → Condition → Type 0
VarsPass test condition = EachFeature (λ feature. IsTrue (test feature)) condition

-- true exactly where a isn't, and names no feature that a doesn't name
pub record IsNegation (a result : Condition) : Type 0 where
  pub holds : (on : ℕ → Bool) → value on result ≡ not (value on a)
  pub names : (test : ℕ → Bool) → VarsPass test a → VarsPass test result
  pub below : (count : ℕ) → VarsBelow count a → VarsBelow count result

-- true exactly where both are, and names no feature that neither names
pub record IsConjunction (a b result : Condition) : Type 0 where
  pub holds : (on : ℕ → Bool) → value on result ≡ (value on a && value on b)
  pub names : (test : ℕ → Bool) → VarsPass test a → VarsPass test b → VarsPass test result
  pub below : (count : ℕ) → VarsBelow count a → VarsBelow count b → VarsBelow count result

-- true exactly where one of them is, and names no feature that neither names
pub record IsDisjunction (a b result : Condition) : Type 0 where
  pub holds : (on : ℕ → Bool) → value on result ≡ (value on a || value on b)
  pub names : (test : ℕ → Bool) → VarsPass test a → VarsPass test b → VarsPass test result
  pub below : (count : ℕ) → VarsBelow count a → VarsBelow count b → VarsBelow count result

-- a list of conditions as one tree
abbrev pub conditions : List Condition → Conditions
conditions [] = none
conditions (first ∷ rest) = more first (conditions rest)

-- what a formula says, given what its parts say
abbrev pub one_level : Formula-F Condition → Condition
one_level True = Always
one_level False = Never
one_level (Var feature) = Feature feature
one_level (Not inner) = Inverse inner.value
one_level (And parts) = All_of (conditions parts.items)
one_level (Or parts) = Any_of (conditions parts.items)

-- what a formula says
unfoldable pub condition_of : Formula → Condition
condition_of = fold-Formula Condition one_level

-- what several formulas say
abbrev pub conditions_of : List Formula → Conditions
conditions_of formulas = conditions (map condition_of formulas)
