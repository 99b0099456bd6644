-- What constraints and conditions of units mean, over the names of the features.
use Rattle.std.specs.Prelude.{◌≡◌, ℕ, Bool, true, List, map, length, Option, Some, None, String, string_bytes, ⊤}
use Rattle.std.specs.declared.alloc.Global.{Global}
use Rattle.cond_formula.specs.Conditions.{Condition, VarsBelow, value}
use Rattle.feature_model.specs.Trees.{Tree}
use Rattle.feature_model.specs.Constraints.{IsOver, Says, Admits}

-- the strings have these bytes
abbrev pub Spell : List (String Global) → List (List ℕ) → Type 0
Spell texts bytes = map string_bytes texts ≡ bytes

-- the text is a constraint over features of these names
pub record IsConstraintOver (names : List (List ℕ)) (text : List ℕ) : Type 0 where
  pub features : List (String Global)
  pub spelled : Spell features names
  pub tree : Tree
  pub over : IsOver features text tree

-- a text, where there is one, is a constraint over these features
abbrev pub IsLawful : List (List ℕ) → Option (List ℕ) → Type 0
IsLawful names None = ⊤
IsLawful names (Some text) = IsConstraintOver names text

-- the condition has the value of the text
pub record HasValueOf (names : List (List ℕ)) (text : List ℕ) (condition : Condition) : Type 0 where
  pub features : List (String Global)
  pub spelled : Spell features names
  pub says : Says features text condition

-- a unit is present where its text is true; one without a text always is
abbrev pub HasPresence : List (List ℕ) → Option (List ℕ) → Condition → Type 0
HasPresence names None condition = (on : ℕ → Bool) → value on condition ≡ true
HasPresence names (Some text) condition = HasValueOf names text condition

-- The condition under which a unit is present. It names no other features.
pub record IsPresence (names : List (List ℕ)) (when : Option (List ℕ)) (condition : Condition) : Type 0 where
  pub value_is : HasPresence names when condition
  pub below : VarsBelow (length names) condition

-- The condition is true where each of the constraints is, and names no other features.
pub record IsModelOf (names constraints : List (List ℕ)) (condition : Condition) : Type 0 where
  pub features : List (String Global)
  pub spelled : Spell features names
  pub texts : List (String Global)
  pub texts_spelled : Spell texts constraints
  pub admits : Admits features texts condition
  pub below : VarsBelow (length names) condition
