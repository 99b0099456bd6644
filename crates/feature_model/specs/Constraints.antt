-- Which texts are constraints, what a list of them says, and why a list is refused.
use Rattle.std.specs.Prelude.{◌≡◌, ℕ, suc, ◌<◌, ◌≤◌, Bool, true, false, List, [], ◌∷◌, ◌++◌, length, String, string_bytes, ⊤}
use Rattle.std.specs.List.{list_all}
use Rattle.std.specs.declared.alloc.Global.{Global}
use Rattle.cond_formula.specs.Conditions.{Condition, VarsBelow, value}
use Rattle.feature_model.specs.declared.errors.ModelError.{ModelError}
use Rattle.feature_model.specs.declared.errors.ModelError.TheVariants.{Syntax, UnknownFeature, TooMany, Memory}
use Rattle.feature_model.specs.Tokens.{Token, IsWriting}
use Rattle.feature_model.specs.Trees.{Tree, Spells, holds, is_known}

-- The text, of at most 1,024 bytes, is a constraint, and this is its tree.
pub record IsConstraint (text : List ℕ) (tree : Tree) : Type 0 where
  pub tokens : List Token
  pub written : IsWriting text tokens
  pub spelled : Spells tokens tree
  pub short : length text ≤ 1024

-- a constraint over these features
pub record IsOver (features : List (String Global)) (text : List ℕ) (tree : Tree) : Type 0 where
  pub constraint : IsConstraint text tree
  pub known : is_known features tree ≡ true

-- The condition has the value of the text in every configuration, and names none but these features.
pub record Says (features : List (String Global)) (text : List ℕ) (condition : Condition) : Type 0 where
  pub tree : Tree
  pub over : IsOver features text tree
  pub holds : (on : ℕ → Bool) → value on condition ≡ holds features on tree
  pub below : VarsBelow (length features) condition

-- a constraint that names no feature with one of its names
pub record NamesAnother (features : List (String Global)) (text : List ℕ) : Type 0 where
  pub tree : Tree
  pub constraint : IsConstraint text tree
  pub unknown : is_known features tree ≡ false

-- why the text with this place in its list, from 1, is refused
abbrev pub WhyRefused : List (String Global) → List ℕ → ℕ → ModelError → Type 0
WhyRefused features text index (Syntax at) = (at ≡ index) × ((tree : Tree) → IsConstraint text tree → ⊥)
WhyRefused features text index (UnknownFeature at) = (at ≡ index) × NamesAnother features text
WhyRefused features text index TooMany = ⊥
WhyRefused features text index Memory = ⊤

-- the trees of the texts, one by one
abbrev pub AreOver : List (String Global) → List (String Global) → List Tree → Type 0
AreOver features [] [] = ⊤
AreOver features [] (tree ∷ trees) = ⊥
AreOver features (text ∷ texts) [] = ⊥
AreOver features (text ∷ texts) (tree ∷ trees) = IsOver features (string_bytes text) tree × AreOver features texts trees

-- The condition is true in the configurations in which each of the texts is, and in no other. It names none but these
-- features.
pub record Admits (features texts : List (String Global)) (condition : Condition) : Type 0 where
  pub trees : List Tree
  pub over : AreOver features texts trees
  pub holds : (on : ℕ → Bool) → value on condition ≡ list_all (holds features on) trees
  pub below : VarsBelow (length features) condition

-- the first text that is refused, and why
pub record FirstRefused (features texts : List (String Global)) (error : ModelError) : Type 0 where
  pub before : List (String Global)
  pub text : String Global
  pub after : List (String Global)
  pub split : texts ≡ before ++ text ∷ after
  pub trees : List Tree
  pub over : AreOver features before trees
  pub why : WhyRefused features (string_bytes text) (suc (length before)) error

-- why a list of texts over few enough features is refused
abbrev pub WhyStopped : List (String Global) → List (String Global) → ModelError → Type 0
WhyStopped features texts (Syntax at) = FirstRefused features texts (Syntax at)
WhyStopped features texts (UnknownFeature at) = FirstRefused features texts (UnknownFeature at)
WhyStopped features texts TooMany = ⊥
WhyStopped features texts Memory = ⊤

-- why there is no model of these features and texts
abbrev pub WhyNoModel : List (String Global) → List (String Global) → ModelError → Type 0
WhyNoModel features texts (Syntax at) = (length features ≤ 128) × FirstRefused features texts (Syntax at)
WhyNoModel features texts (UnknownFeature at) = (length features ≤ 128) × FirstRefused features texts (UnknownFeature at)
WhyNoModel features texts TooMany = 128 < length features
WhyNoModel features texts Memory = ⊤

-- the same of a text's tokens
pub record SaysTokens (features : List (String Global)) (tokens : List Token) (condition : Condition) : Type 0 where
  pub tree : Tree
  pub spelled : Spells tokens tree
  pub known : is_known features tree ≡ true
  pub holds : (on : ℕ → Bool) → value on condition ≡ holds features on tree
  pub below : VarsBelow (length features) condition

abbrev pub WhyTokens : List (String Global) → List Token → ℕ → ModelError → Type 0
WhyTokens features tokens index (Syntax at) = (at ≡ index) × ((tree : Tree) → Spells tokens tree → ⊥)
WhyTokens features tokens index (UnknownFeature at) =
    (at ≡ index) × ((tree : Tree) × Spells tokens tree × (is_known features tree ≡ false))
WhyTokens features tokens index TooMany = ⊥
WhyTokens features tokens index Memory = ⊤
