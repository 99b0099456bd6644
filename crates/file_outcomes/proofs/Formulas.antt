-- The condition of a constraint's tree.
use Rattle.std.proofs.Common.{◌≡◌, ℕ, ◌<◌, Bool, true, false, not, ◌&&◌, ◌||◌, List, [], ◌∷◌, length, Option, Some, None, String, string_bytes, refl, ap}
use Rattle.std.specs.Prelude.{if◌then◌else◌}
use Rattle.std.specs.List.{list_all}
use Rattle.std.specs.Str.{bytes_eq}
use Rattle.std.specs.declared.alloc.Global.{Global}
use Rattle.std.proofs.lemmas.List.Quantifiers.{position-Some}
use Rattle.cond_formula.specs.Conditions.{Condition, Always, Never, Feature, Inverse, All_of, Any_of, none, more, value, VarsBelow}
use Rattle.feature_model.specs.Trees.{Tree, named, inverse, grouped, both, either, implies, equals, feature_number, on_feature, holds}
use Rattle.feature_model.specs.Constraints.{IsOver, Says, AreOver, Admits}

abbrev pub numbered : Option ℕ → Condition
numbered None = Never
numbered (Some number) = Feature number

abbrev conjoined : Condition → Condition → Condition
conjoined a b = All_of (more a (more b none))

abbrev disjoined : Condition → Condition → Condition
disjoined a b = Any_of (more a (more b none))

abbrev pub condition_for : List (String Global) → Tree → Condition
condition_for features (named name) = numbered (feature_number features name)
condition_for features (inverse a) = Inverse (condition_for features a)
condition_for features (grouped a) = condition_for features a
condition_for features (both a b) = conjoined (condition_for features a) (condition_for features b)
condition_for features (either a b) = disjoined (condition_for features a) (condition_for features b)
condition_for features (implies a b) = disjoined (Inverse (condition_for features a)) (condition_for features b)
condition_for features (equals a b) =
    disjoined (conjoined (condition_for features a) (condition_for features b)) (conjoined (Inverse (condition_for features a)) (Inverse (condition_for features b)))

two_all : (a b : Bool) → (a && (b && true)) ≡ (a && b)
two_all true true = refl
two_all true false = refl
two_all false b = refl

two_any : (a b : Bool) → (a || (b || false)) ≡ (a || b)
two_any true b = refl
two_any false true = refl
two_any false false = refl

alike : (a b : Bool) → ((a && (b && true)) || ((not a && (not b && true)) || false)) ≡ (if a then b else not b)
alike true true = refl
alike true false = refl
alike false true = refl
alike false false = refl

module _ (features : List (String Global)) where
  number_value : (on : ℕ → Bool) (number : Option ℕ) → value on (numbered number) ≡ on_feature on number
  number_value on None = refl
  number_value on (Some number) = refl

  pub condition_value : (on : ℕ → Bool) (tree : Tree) → value on (condition_for features tree) ≡ holds features on tree
  condition_value on (named name) = number_value on (feature_number features name)
  condition_value on (inverse a) = ap not (condition_value on a)
  condition_value on (grouped a) = condition_value on a
  condition_value on (both a b) = rw (condition_value on a, condition_value on b) (two_all (holds features on a) (holds features on b))
  condition_value on (either a b) = rw (condition_value on a, condition_value on b) (two_any (holds features on a) (holds features on b))
  condition_value on (implies a b) = rw (condition_value on a, condition_value on b) (two_any (not (holds features on a)) (holds features on b))
  condition_value on (equals a b) = rw (condition_value on a, condition_value on b) (alike (holds features on a) (holds features on b))

  number_below : (name : List ℕ) (number : Option ℕ) → feature_number features name ≡ number → VarsBelow (length features) (numbered number)
  number_below name None e = tt
  number_below name (Some number) e = by features (λ d. (position-Some (λ feature. bytes_eq (string_bytes feature) name) features number d e).0) e
    where
      by : (fs : List (String Global)) → (String Global → number < length fs) → feature_number fs name ≡ Some number → number < length fs
      by [] h e = let none_is : ◌≡◌ {A = Option ℕ} None (Some number) = e in absurd cc
      by (f ∷ fs) h e = h f

  pub condition_below : (tree : Tree) → VarsBelow (length features) (condition_for features tree)
  condition_below (named name) = number_below name (feature_number features name) refl
  condition_below (inverse a) = condition_below a
  condition_below (grouped a) = condition_below a
  condition_below (both a b) = (condition_below a, (condition_below b, tt))
  condition_below (either a b) = (condition_below a, (condition_below b, tt))
  condition_below (implies a b) = (condition_below a, (condition_below b, tt))
  condition_below (equals a b) = ((condition_below a, (condition_below b, tt)), ((condition_below a, (condition_below b, tt)), tt))

  pub says : (text : List ℕ) (tree : Tree) → IsOver features text tree → Says features text (condition_for features tree)
  says text tree over = record { tree = tree; over = over; holds = λ on. condition_value on tree; below = condition_below tree }

  abbrev pub all_for : List Tree → Condition
  all_for [] = Always
  all_for (tree ∷ trees) = conjoined (condition_for features tree) (all_for trees)

  all_value : (on : ℕ → Bool) (trees : List Tree) → value on (all_for trees) ≡ list_all (holds features on) trees
  all_value on [] = refl
  all_value on (tree ∷ trees) = rw (condition_value on tree, all_value on trees) (two_all (holds features on tree) (list_all (holds features on) trees))

  all_below : (trees : List Tree) → VarsBelow (length features) (all_for trees)
  all_below [] = tt
  all_below (tree ∷ trees) = (condition_below tree, (all_below trees, tt))

  pub admits : (texts : List (String Global)) (trees : List Tree) → AreOver features texts trees → Admits features texts (all_for trees)
  admits texts trees over = record { trees = trees; over = over; holds = λ on. all_value on trees; below = all_below trees }
