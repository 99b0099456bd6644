-- A translation is satisfiable exactly where the condition has a model.
use Rattle.std.proofs.Common.{◌≡◌, ℕ, zero, suc, ◌+◌, ◌-◌, ◌<◌, Bool, true, false, ◌||◌, cond, eqb, leb, ℤ, List, [], ◌∷◌, Contains, refl, sym, ap, ◌∙◌, subst, arith, inl, inr}
use Rattle.std.proofs.Math.Bool.{or-false}
use Rattle.std.proofs.lemmas.Bool.{false_from_ne_true, false≢true, eqb-true}
use Rattle.std.proofs.lemmas.Bool.Decides.{nat_tests}
use Rattle.std.proofs.lemmas.List.Elements.{All-contains, Contains-append_cases, Contains-append_right}
use Rattle.std.specs.Cmp.Derive.{both_true}
use Rattle.cond_formula.specs.Conditions.{Condition, Never, value, VarsBelow, AllVarsBelow}
use Rattle.cond_formula.specs.ConditionLaws.{value_same_below}
use Rattle.refute_check.specs.Clauses.{all_hold}
use Rattle.refute_check.specs.Refutations.{RefutationLaw}
use Rattle.sat_core.specs.Nodes.{Node, Parts, always_at, never_at, feature_at, inverse_at, all_at, any_at, no_part, part_then, variable, condition_at, conditions_at, nodes_of, nodes_of_parts}
use Rattle.sat_core.specs.Translations.{features_of, defining_clauses, IsTranslation, IsExtended, TranslationLaw, NoModelLaw}
use Rattle.refute_check.specs.StepLaws.{left_true, right_true}
use Rattle.sat_core.proofs.ClauseLaws.{all_hold_among}
use Rattle.sat_core.proofs.NodeLaws.{IsSound, own_node, sound_from_defined, defined_from_sound, defined}

-- the condition of the first node with this variable
abbrev condition_with : List Node → ℕ → Condition
condition_with [] v = Never
condition_with (first ∷ rest) v = cond (eqb (variable first) v) (condition_at first) (condition_with rest v)

-- a node that the first one with its variable is equal to
record IsFound (nodes : List Node) (node : Node) : Type 0 where
  other : Node
  among : Contains nodes other
  alike : variable other ≡ variable node
  is : condition_with nodes (variable node) ≡ condition_at other

found_later : (first : Node) (rest : List Node) (node : Node) → eqb (variable first) (variable node) ≡ false → IsFound rest node → IsFound (first ∷ rest) node
found_later first rest node apart found = record {
  other = found.other;
  among = Contains-append_right (first ∷ []) rest found.other found.among;
  alike = found.alike;
  is = rw apart found.is;
}

found_here : (first : Node) (rest : List Node) (node : Node) → eqb (variable first) (variable node) ≡ true → IsFound (first ∷ rest) node
found_here first rest node is = record {
  other = first;
  among = (0, omega arith, refl);
  alike = eqb-true (variable first) (variable node) is;
  is = rw is refl;
}

tail_has : (first : Node) (rest : List Node) (node : Node) → eqb (variable first) (variable node) ≡ false → Contains (first ∷ rest) node → Contains rest node
tail_has first rest node apart (zero, within, is) =
    let same : eqb (variable first) (variable node) ≡ true = rw is (grind (arith, nat_tests)) in absurd (false≢true (sym apart ∙ same))
tail_has first rest node apart (suc k, within, is) = (k, omega arith, is)

found_by : (test : Bool) (first : Node) (rest : List Node) (node : Node) → eqb (variable first) (variable node) ≡ test → (eqb (variable first) (variable node) ≡ false → IsFound rest node) → IsFound (first ∷ rest) node
found_by true first rest node is later = found_here first rest node is
found_by false first rest node is later = found_later first rest node is (later is)

find_node : (nodes : List Node) (node : Node) → Contains nodes node → IsFound nodes node
find_node [] node (k, within, is) = absurd (omega arith)
find_node (first ∷ rest) node has =
    found_by (eqb (variable first) (variable node)) first rest node refl (λ apart. find_node rest node (tail_has first rest node apart has))

-- the features of the condition bound those of its nodes
module _ (features : ℕ) where
  only : (node other : Node) → VarsBelow features (condition_at node) → Contains (node ∷ []) other → VarsBelow features (condition_at other)
  only node other below (zero, within, is) = subst (λ (n : Node). VarsBelow features (condition_at n)) is below
  only node other below (suc k, within, is) = absurd (omega arith)

  mutual
    node_below : (node : Node) → VarsBelow features (condition_at node) → (other : Node) → Contains (nodes_of node) other → VarsBelow features (condition_at other)
    node_below (always_at v) below other has = only (always_at v) other below has
    node_below (never_at v) below other has = only (never_at v) other below has
    node_below (feature_at v feature) below other has = only (feature_at v feature) other below has
    node_below (inverse_at v inner) below other has =
        elim (Contains-append_cases (nodes_of inner) (inverse_at v inner ∷ []) other has) [
          | inl within ↦ node_below inner below other within
          | inr own ↦ only (inverse_at v inner) other below own
        ]
    node_below (all_at v parts) below other has =
        elim (Contains-append_cases (nodes_of_parts parts) (all_at v parts ∷ []) other has) [
          | inl within ↦ parts_below parts below other within
          | inr own ↦ only (all_at v parts) other below own
        ]
    node_below (any_at v parts) below other has =
        elim (Contains-append_cases (nodes_of_parts parts) (any_at v parts ∷ []) other has) [
          | inl within ↦ parts_below parts below other within
          | inr own ↦ only (any_at v parts) other below own
        ]

    parts_below : (parts : Parts) → AllVarsBelow features (conditions_at parts) → (other : Node) → Contains (nodes_of_parts parts) other → VarsBelow features (condition_at other)
    parts_below no_part below other (k, within, is) = absurd (omega arith)
    parts_below (part_then first rest) below other has =
        elim (Contains-append_cases (nodes_of first) (nodes_of_parts rest) other has) [
          | inl front ↦ node_below first below.0 other front
          | inr back ↦ parts_below rest below.1 other back
        ]

module _ (features : ℕ) (condition : Condition) (vars : ℕ) (given : List (List ℤ)) (below : VarsBelow features condition) (translation : IsTranslation features condition vars given) where
  abbrev root : Node
  root = translation.root

  node_above : (node : Node) → Contains (nodes_of root) node → features < variable node
  node_above node has = All-contains (λ (n : Node). features < variable n) (nodes_of root) node translation.above has

  -- a satisfying assignment is a model
  restricts : (values : ℕ → Bool) → all_hold values given ≡ true → value (features_of values) condition ≡ true
  restricts values holds =
      let all : all_hold values (defining_clauses root) ≡ true = all_hold_among values given (defining_clauses root) translation.all_there holds in
      let root_true : values (variable root) ≡ true =
      sym (or-false (values (variable root))) ∙ left_true (values (variable root) || false) (defined values (nodes_of root)) all in
      let nodes_hold = right_true (values (variable root) || false) (defined values (nodes_of root)) all in
      let sound = sound_from_defined values root (λ node has. (let above = node_above node has in omega arith)) nodes_hold in
      ap (value (features_of values)) (sym translation.of_condition) ∙ sym sound.equal ∙ root_true

  module _ (on : ℕ → Bool) (model : value on condition ≡ true) where
    -- the features as they are, and each other variable as the condition of its node
    abbrev extended : ℕ → Bool
    extended v = cond (leb v features) (on (v - 1)) (value on (condition_with (nodes_of root) v))

    extended_feature : (feature : ℕ) → feature < features → features_of extended feature ≡ on feature
    extended_feature feature within =
        let test : leb (feature + 1) features ≡ true = grind (arith, nat_tests) in
        let back : feature + 1 - 1 ≡ feature = omega arith in
        rw (test, back) refl

    extended_node : (node : Node) → Contains (nodes_of root) node → IsSound extended node
    extended_node node has =
        let above = node_above node has in
        let test : leb (variable node) features ≡ false = grind (arith, nat_tests) in
        let found = find_node (nodes_of root) node has in
        let alike : condition_at found.other ≡ condition_at node = translation.shared found.other node found.among has found.alike in
        let here : extended (variable node) ≡ value on (condition_at node) = rw test (ap (value on) (found.is ∙ alike)) in
        let root_below : VarsBelow features (condition_at root) = subst (VarsBelow features) (sym translation.of_condition) below in
        record {
          some = omega arith;
          equal = here ∙ value_same_below features on (features_of extended) (λ feature within. sym (extended_feature feature within)) (condition_at node) (node_below features root root_below node has);
        }

    extends : IsExtended features on given
    extends =
        let root_below : VarsBelow features (condition_at root) = subst (VarsBelow features) (sym translation.of_condition) below in
        let same_value : value (features_of extended) (condition_at root) ≡ value on (condition_at root) = value_same_below features (features_of extended) on extended_feature (condition_at root) root_below in
        let root_true : extended (variable root) ≡ true = (extended_node root (own_node extended root)).equal ∙ same_value ∙ ap (value on) translation.of_condition ∙ model in
        let all : all_hold extended (defining_clauses root) ≡ true = both_true (or-false (extended (variable root)) ∙ root_true) (defined_from_sound extended root extended_node) in
        record {
          values = extended;
          satisfied = all_hold_among extended (defining_clauses root) given translation.no_other all;
          agrees = extended_feature;
        }

pub translation_law : TranslationLaw
translation_law features condition vars given below translation = record {
  extends = λ on model. extends features condition vars given below translation on model;
  restricts = restricts features condition vars given below translation;
}

pub no_model_law : RefutationLaw → NoModelLaw
no_model_law law features condition vars given steps below translation refutation on =
    false_from_ne_true (value on condition) (λ model.
    let extension = (translation_law features condition vars given below translation).extends on model in
    false≢true (sym (law vars given steps refutation extension.values) ∙ extension.satisfied))
