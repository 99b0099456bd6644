-- The least assignment that satisfies a translation is the least model.
use Rattle.std.proofs.Common.{◌≡◌, ℕ, zero, suc, ◌+◌, ◌-◌, ◌<◌, ◌≤◌, ◌⊎◌, Bool, true, false, not, ◌&&◌, leb, ℤ, pos, List, [], ◌∷◌, get_or, Contains, refl, sym, ap, ◌∙◌, subst, arith, inl, inr}
use Rattle.std.proofs.Math.Numerals.{add-one}
use Rattle.std.proofs.lemmas.Bool.{leb-true}
use Rattle.std.proofs.lemmas.Bool.{cases_lt}
use Rattle.std.proofs.lemmas.List.Elements.{All-contains}
use Rattle.std.proofs.lemmas.List.Sums.{AllPass-from_list_all}
use Rattle.cond_formula.specs.Features.{has}
use Rattle.cond_formula.specs.Conditions.{Condition, VarsBelow}
use Rattle.cond_formula.specs.ConditionLaws.{value_same_below}
use Rattle.refute_check.specs.Clauses.{variable_of, is_literal, names_variable, is_clause}
use Rattle.clause_search.specs.Least.{assignment, IsNoGreater, IsLeast}
use Rattle.sat_core.specs.Models.{IsLess, AreSame, IsLeastModel}
use Rattle.sat_core.specs.Nodes.{Node, variable, nodes_of}
use Rattle.sat_core.specs.Translations.{features_of, IsTranslation, IsExtended}
use Rattle.refute_check.specs.StepLaws.{left_true, right_true}
use Rattle.sat_core.proofs.NodeLaws.{own_node}
use Rattle.sat_core.proofs.TranslationLaws.{translation_law}

-- a clause of the form is over the variables
literal_within : (vars : ℕ) (clause : List ℤ) (literal : ℤ) → is_clause vars clause ≡ true → Contains clause literal → variable_of literal ≤ vars
literal_within vars [] literal formed (k, within, is) = absurd (omega arith)
literal_within vars (first ∷ rest) literal formed (zero, within, is) =
    let two = left_true (is_literal vars first && not (names_variable rest (variable_of first))) (is_clause vars rest) formed in
    let own = left_true (is_literal vars first) (not (names_variable rest (variable_of first))) two in
    subst (λ (l : ℤ). variable_of l ≤ vars) is (leb-true (variable_of first) vars (right_true (leb 1 (variable_of first)) (leb (variable_of first) vars) own))
literal_within vars (first ∷ rest) literal formed (suc k, within, is) =
    literal_within vars rest literal (right_true (is_literal vars first && not (names_variable rest (variable_of first))) (is_clause vars rest) formed) (k, omega arith, is)

module _ (features : ℕ) (condition : Condition) (vars : ℕ) (given : List (List ℤ)) (translation : IsTranslation features condition vars given) where
  -- the root has a variable above the features
  pub features_within : features ≤ vars
  features_within =
      let root = translation.root in
      let found = translation.all_there 0 [] (omega arith) in
      let formed : is_clause vars found.1 ≡ true = All-contains (λ (c : List ℤ). is_clause vars c ≡ true) given found.1 (AllPass-from_list_all (is_clause vars) given translation.formed) (found.0, found.2, found.3) in
      let within = literal_within vars found.1 (pos (variable root)) formed (found.4.there (pos (variable root)) (0, omega arith, refl)) in
      let above = All-contains (λ (n : Node). features < variable n) (nodes_of root) root translation.above (own_node (λ _. true) root) in
      omega arith

  module _ (below : VarsBelow features condition) (values : List Bool) (least : IsLeast vars given values) (config : List Bool) (on : (feature : ℕ) → feature < features → has config feature ≡ get_or values feature false) (off : (feature : ℕ) → features ≤ feature → has config feature ≡ false) where
    -- the features as the assignment has them
    as_assigned : (feature : ℕ) → feature < features → features_of (assignment values) feature ≡ has config feature
    as_assigned feature within = rw (add-one feature) (sym (on feature within))

    no_greater : (other : ℕ → Bool) (extension : IsExtended features other given) → IsNoGreater vars (assignment values) extension.values → AreSame features (has config) other ⊎ IsLess features (has config) other
    no_greater other extension (inl agree) = inl (record {
      same = λ feature within.
          let bound = features_within in
          sym (as_assigned feature within) ∙ agree.each (feature + 1) (omega arith) (omega arith) ∙ extension.agrees feature within;
    })
    no_greater other extension (inr (v, within, lesser)) =
        let numbered = lesser.numbered in
        let back : v - 1 + 1 ≡ v = omega arith in
        let bound = features_within in
        let same_below = λ (last : ℕ) (fits : last ≤ v - 1) (feature : ℕ) (is : feature < last) (small : feature < features). sym (as_assigned feature small) ∙ lesser.same.each (feature + 1) (omega arith) (omega arith) ∙ extension.agrees feature small in
        elim (cases_lt (v - 1) features) [
          | inl small ↦ inr (record {
            first = v - 1;
            within = small;
            same_before = λ feature is. same_below (v - 1) (omega arith) feature is (omega arith);
            off = sym (as_assigned (v - 1) small) ∙ ap (assignment values) back ∙ lesser.off;
            other_on = sym (extension.agrees (v - 1) small) ∙ ap extension.values back ∙ lesser.on;
          })
          | inr past ↦ inl (record { same = λ feature is. same_below features (omega arith) feature is is })
        ]

    pub least_model : IsLeastModel features condition config
    least_model =
        let law = translation_law features condition vars given below translation in
        record {
          holds = value_same_below features (has config) (features_of (assignment values)) (λ feature within. sym (as_assigned feature within)) condition below ∙ law.restricts (assignment values) least.satisfies;
          within = off;
          least = λ other model. (let extension = law.extends other model in no_greater other extension (least.least extension.values extension.satisfied));
        }
