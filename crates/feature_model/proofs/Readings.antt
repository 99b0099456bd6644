-- What the reading of tokens says of their tree.
use Rattle.std.proofs.Common.{◌≡◌, ℕ, Bool, true, false, ◌&&◌, List, [], ◌∷◌, Option, Some, None, MatchOption, refl, sym, ap, ◌∙◌}
use Rattle.std.specs.Prelude.{⊤, option_map, String}
use Rattle.std.specs.List.{list_all}
use Rattle.std.specs.declared.alloc.Global.{Global}
use Rattle.cond_formula.specs.Conditions.{Condition, value}
use Rattle.feature_model.specs.declared.signs.Sign.TheVariants.{And, Or, Implies, Equals, Closes}
use Rattle.feature_model.specs.Tokens.{Token, Mark}
use Rattle.feature_model.specs.Trees.{Tree, named, inverse, grouped, both, either, implies, equals, spell, Spells, holds, is_known, names_feature}
use Rattle.feature_model.specs.Reading.{truths, trees, read, at_start}
use Rattle.feature_model.proofs.Complete.{complete}
use Rattle.feature_model.proofs.Sound.{sound}
use Rattle.feature_model.proofs.Truth.{truth_read}

-- tokens have one tree at most
pub spells_read : (tokens : List Token) (tree : Tree) → Spells tokens tree → read trees (at_start trees) tokens ≡ Some tree
spells_read tokens tree s = ap (read trees (at_start trees)) s.spelled ∙ complete tree s.fits

pub one_tree : (tokens : List Token) (a b : Tree) → Spells tokens a → Spells tokens b → a ≡ b
one_tree tokens a b s t = let x = spells_read tokens a s in let y = spells_read tokens b t in cc

-- the tree of what was read, with its truth
pub record Found (features : List (String Global)) (tokens : List Token) (condition : Condition) : Type 0 where
  pub tree : Tree
  pub spelled : Spells tokens tree
  pub holds : (on : ℕ → Bool) → value on condition ≡ holds features on tree

module _ (features : List (String Global)) (tokens : List Token) where
  abbrev pub Truth : (ℕ → Bool) → Option Bool
  Truth on = read (truths features on) (at_start (truths features on)) tokens

  pub no_tree : ((on : ℕ → Bool) → None ≡ Truth on) → (tree : Tree) → Spells tokens tree → ⊥
  no_tree e tree s =
      let off : ℕ → Bool = λ _. false in
      let q : ◌≡◌ {A = Option Bool} None (Some (holds features off tree)) =
      e off ∙ truth_read features off tokens ∙ ap (option_map (holds features off)) (spells_read tokens tree s) in
      absurd cc

  found_in :
      (condition : Condition) (x : Option Tree) → MatchOption x ⊤ (Spells tokens)
      → ((on : ℕ → Bool) → Some (value on condition) ≡ option_map (holds features on) x)
      → Found features tokens condition
  found_in condition None w e = let q = e (λ _. false) in absurd cc
  found_in condition (Some t) w e = record { tree = t; spelled = w; holds = λ on. let q = e on in cc }

  pub found :
      (condition : Condition) → ((on : ℕ → Bool) → Some (value on condition) ≡ Truth on)
      → Found features tokens condition
  found condition e =
      found_in condition (read trees (at_start trees) tokens) (sound tokens)
      (λ on. e on ∙ truth_read features on tokens)

  -- whether the names of a tree are those of features
  and_assoc : (a b c : Bool) → ((a && b) && c) ≡ (a && (b && c))
  and_assoc true b c = refl
  and_assoc false b c = refl

  pub spell-known :
      (t : Tree) (k : List Token)
      → list_all (names_feature features) (spell t k) ≡ (is_known features t && list_all (names_feature features) k)
  spell-known (named x) k = refl
  spell-known (inverse a) k = spell-known a k
  spell-known (grouped a) k = spell-known a (Mark Closes ∷ k)
  spell-known (both a b) k =
      spell-known a (Mark And ∷ spell b k) ∙ ap (λ x. is_known features a && x) (spell-known b k)
      ∙ sym (and_assoc (is_known features a) (is_known features b) (list_all (names_feature features) k))
  spell-known (either a b) k =
      spell-known a (Mark Or ∷ spell b k) ∙ ap (λ x. is_known features a && x) (spell-known b k)
      ∙ sym (and_assoc (is_known features a) (is_known features b) (list_all (names_feature features) k))
  spell-known (implies a b) k =
      spell-known a (Mark Implies ∷ spell b k) ∙ ap (λ x. is_known features a && x) (spell-known b k)
      ∙ sym (and_assoc (is_known features a) (is_known features b) (list_all (names_feature features) k))
  spell-known (equals a b) k =
      spell-known a (Mark Equals ∷ spell b k) ∙ ap (λ x. is_known features a && x) (spell-known b k)
      ∙ sym (and_assoc (is_known features a) (is_known features b) (list_all (names_feature features) k))

  and_true : (a : Bool) → (a && true) ≡ a
  and_true true = refl
  and_true false = refl

  pub known_of : (t : Tree) → Spells tokens t → list_all (names_feature features) tokens ≡ is_known features t
  known_of t s =
      ap (list_all (names_feature features)) s.spelled ∙ spell-known t [] ∙ and_true (is_known features t)
