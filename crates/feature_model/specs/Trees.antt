-- The trees of constraints: how each is spelled, how tight its parts hold together, and when it is true.
use Rattle.std.specs.Prelude.{◌≡◌, ℕ, ◌≤◌, Bool, true, false, not, ◌&&◌, ◌||◌, List, [], ◌∷◌, Option, Some, None, if◌then◌else◌, is_some, position, String, string_bytes, ⊤}
use Rattle.std.specs.declared.alloc.Global.{Global}
use Rattle.std.specs.Str.{bytes_eq}
use Rattle.feature_model.specs.declared.signs.Sign.TheVariants.{Not, And, Or, Implies, Equals, Opens, Closes}
use Rattle.feature_model.specs.Tokens.{Token, Name, Mark}

pub data Tree : Type 0 where
  named : List ℕ → Tree
  inverse : Tree → Tree
  grouped : Tree → Tree
  both : Tree → Tree → Tree
  either : Tree → Tree → Tree
  implies : Tree → Tree → Tree
  equals : Tree → Tree → Tree

-- the tokens of a tree, and then these
abbrev pub spell : Tree → List Token → List Token
spell (named name) k = Name name ∷ k
spell (inverse a) k = Mark Not ∷ spell a k
spell (grouped a) k = Mark Opens ∷ spell a (Mark Closes ∷ k)
spell (both a b) k = spell a (Mark And ∷ spell b k)
spell (either a b) k = spell a (Mark Or ∷ spell b k)
spell (implies a b) k = spell a (Mark Implies ∷ spell b k)
spell (equals a b) k = spell a (Mark Equals ∷ spell b k)

-- how tight a tree's outermost operator binds
abbrev pub strength : Tree → ℕ
strength (named name) = 5
strength (inverse a) = 5
strength (grouped a) = 5
strength (both a b) = 4
strength (either a b) = 3
strength (implies a b) = 2
strength (equals a b) = 1

-- Operands bind tighter than their operator, or as tight on the side from which it groups: `->` groups from the right, the
-- other operators from the left.
abbrev pub Fits : Tree → Type 0
Fits (named name) = ⊤
Fits (inverse a) = (5 ≤ strength a) × Fits a
Fits (grouped a) = Fits a
Fits (both a b) = (4 ≤ strength a) × (5 ≤ strength b) × Fits a × Fits b
Fits (either a b) = (3 ≤ strength a) × (4 ≤ strength b) × Fits a × Fits b
Fits (implies a b) = (3 ≤ strength a) × (2 ≤ strength b) × Fits a × Fits b
Fits (equals a b) = (1 ≤ strength a) × (2 ≤ strength b) × Fits a × Fits b

-- the tokens are those of the tree
pub record Spells (tokens : List Token) (tree : Tree) : Type 0 where
  pub spelled : tokens ≡ spell tree []
  pub fits : Fits tree

-- the first feature with this name
abbrev pub feature_number : List (String Global) → List ℕ → Option ℕ
feature_number features name = position (λ feature. bytes_eq (string_bytes feature) name) features

abbrev pub on_feature : (ℕ → Bool) → Option ℕ → Bool
on_feature on None = false
on_feature on (Some feature) = on feature

-- whether a tree is true where `on` says which of the features are on
module _ (features : List (String Global)) (on : ℕ → Bool) where
  abbrev pub holds : Tree → Bool
  holds (named name) = on_feature on (feature_number features name)
  holds (inverse a) = not (holds a)
  holds (grouped a) = holds a
  holds (both a b) = holds a && holds b
  holds (either a b) = holds a || holds b
  holds (implies a b) = not (holds a) || holds b
  holds (equals a b) = if holds a then holds b else not (holds b)

-- whether each name in the tree is that of a feature
abbrev pub is_known : List (String Global) → Tree → Bool
is_known features (named name) = is_some (feature_number features name)
is_known features (inverse a) = is_known features a
is_known features (grouped a) = is_known features a
is_known features (both a b) = is_known features a && is_known features b
is_known features (either a b) = is_known features a && is_known features b
is_known features (implies a b) = is_known features a && is_known features b
is_known features (equals a b) = is_known features a && is_known features b

abbrev pub names_feature : List (String Global) → Token → Bool
names_feature features (Name name) = is_some (feature_number features name)
names_feature features (Mark sign) = true
