-- Numbering the nodes of a condition one after another gives a translation.
use Rattle.std.proofs.Common.{◌≡◌, ◌≢◌, ℕ, zero, suc, ◌+◌, ◌<◌, ◌≤◌, true, false, eqb, ℤ, pos, List, [], ◌∷◌, ◌++◌, map, Contains, refl, sym, ap, ◌∙◌, subst, arith, inl, inr}
use Rattle.std.specs.Prelude.{Any}
use Rattle.std.proofs.lemmas.Bool.Decides.{nat_tests}
use Rattle.std.proofs.lemmas.Grind.{common_steps}
use Rattle.std.proofs.lemmas.List.{append-nil}
use Rattle.std.proofs.lemmas.List.Concat.{flat_map-append}
use Rattle.std.proofs.lemmas.List.Elements.{All-weaker, All-contains_itself, Contains-append_cases, Contains-append_left, Contains-append_right}
use Rattle.std.proofs.lemmas.List.Folds.{list_all-append}
use Rattle.std.specs.Cmp.Derive.{both_true}
use Rattle.std.specs.List.{list_all, flat_map}
use Rattle.cond_formula.specs.Conditions.{Condition, Conditions, Always, Never, Feature, Inverse, All_of, Any_of, none, more, VarsBelow, AllVarsBelow}
use Rattle.cond_formula.specs.ConditionLaws.{formula_kinds}
use Rattle.refute_check.specs.Clauses.{variable_of, is_literal, names_variable, is_clause}
use Rattle.sat_core.specs.Nodes.{Node, Parts, always_at, never_at, feature_at, inverse_at, all_at, any_at, variable, condition_at, conditions_at, nodes_of, nodes_of_parts, part_variables, negated, feature_variable, definition}
use Rattle.sat_core.specs.Translations.{SameLiterals, AreAmong, IsTranslation}
use Rattle.sat_core.specs.Numbering.{node_count, node_count_of, numbered, numbered_parts, node_clauses, parts_clauses, parts_variables, signed, link, gate}
use Rattle.sat_core.proofs.NodeLaws.{each_definition-append, each_definition-push}

-- what is numbered
mutual
  numbered_condition : (last : ℕ) (c : Condition) → condition_at (numbered last c) ≡ c
  numbered_condition last Always = refl
  numbered_condition last Never = refl
  numbered_condition last (Feature feature) = refl
  numbered_condition last (Inverse inner) = ap Inverse (numbered_condition (last + 1) inner)
  numbered_condition last (All_of parts) = ap All_of (numbered_conditions (last + 1) parts)
  numbered_condition last (Any_of parts) = ap Any_of (numbered_conditions (last + 1) parts)

  numbered_conditions : (last : ℕ) (parts : Conditions) → conditions_at (numbered_parts last parts) ≡ parts
  numbered_conditions last none = refl
  numbered_conditions last (more first rest) = rw (numbered_condition last first, numbered_conditions (last + node_count first) rest) refl

pub variable-numbered : (last : ℕ) (c : Condition) → variable (numbered last c) ≡ last + 1
variable-numbered last Always = refl
variable-numbered last Never = refl
variable-numbered last (Feature feature) = refl
variable-numbered last (Inverse inner) = refl
variable-numbered last (All_of parts) = refl
variable-numbered last (Any_of parts) = refl

pub node_count_some : (c : Condition) → 1 ≤ node_count c
node_count_some Always = omega arith
node_count_some Never = omega arith
node_count_some (Feature feature) = omega arith
node_count_some (Inverse inner) = omega arith
node_count_some (All_of parts) = omega arith
node_count_some (Any_of parts) = omega arith

-- the node's variable lies above one number and not above the other
record IsBetween (low high : ℕ) (node : Node) : Type 0 where
  above : low < variable node
  upto : variable node ≤ high

only : (first node : Node) → Contains (first ∷ []) node → first ≡ node
only first node (zero, within, is) = is
only first node (suc k, within, is) = absurd (omega arith)

wider : (low high low' high' : ℕ) (node : Node) → low' ≤ low → high ≤ high' → IsBetween low high node → IsBetween low' high' node
wider low high low' high' node below above is = (let a = is.above in let u = is.upto in record { above = omega arith; upto = omega arith })

own_between : (last : ℕ) (first node : Node) (high : ℕ) → variable first ≡ last + 1 → last + 1 ≤ high → Contains (first ∷ []) node → IsBetween last high node
own_between last first node high is fits has = subst (IsBetween last high) (only first node has) (record { above = omega arith; upto = omega arith })

mutual
  between : (last : ℕ) (c : Condition) (node : Node) → Contains (nodes_of (numbered last c)) node → IsBetween last (last + node_count c) node
  between last Always node has = own_between last (always_at (last + 1)) node (last + 1) refl (omega arith) has
  between last Never node has = own_between last (never_at (last + 1)) node (last + 1) refl (omega arith) has
  between last (Feature feature) node has = own_between last (feature_at (last + 1) feature) node (last + 1) refl (omega arith) has
  between last (Inverse inner) node has =
      let own = numbered last (Inverse inner) in
      elim (Contains-append_cases (nodes_of (numbered (last + 1) inner)) (own ∷ []) node has) [
        | inl part ↦ wider (last + 1) (last + 1 + node_count inner) last (last + (1 + node_count inner)) node (omega arith) (omega arith) (between (last + 1) inner node part)
        | inr this ↦ own_between last own node (last + (1 + node_count inner)) refl (omega arith) this
      ]
  between last (All_of parts) node has =
      let own = numbered last (All_of parts) in
      elim (Contains-append_cases (nodes_of_parts (numbered_parts (last + 1) parts)) (own ∷ []) node has) [
        | inl part ↦ wider (last + 1) (last + 1 + node_count_of parts) last (last + (1 + node_count_of parts)) node (omega arith) (omega arith) (parts_between (last + 1) parts node part)
        | inr this ↦ own_between last own node (last + (1 + node_count_of parts)) refl (omega arith) this
      ]
  between last (Any_of parts) node has =
      let own = numbered last (Any_of parts) in
      elim (Contains-append_cases (nodes_of_parts (numbered_parts (last + 1) parts)) (own ∷ []) node has) [
        | inl part ↦ wider (last + 1) (last + 1 + node_count_of parts) last (last + (1 + node_count_of parts)) node (omega arith) (omega arith) (parts_between (last + 1) parts node part)
        | inr this ↦ own_between last own node (last + (1 + node_count_of parts)) refl (omega arith) this
      ]

  parts_between : (last : ℕ) (parts : Conditions) (node : Node) → Contains (nodes_of_parts (numbered_parts last parts)) node → IsBetween last (last + node_count_of parts) node
  parts_between last none node (k, within, is) = absurd (omega arith)
  parts_between last (more first rest) node has =
      elim (Contains-append_cases (nodes_of (numbered last first)) (nodes_of_parts (numbered_parts (last + node_count first) rest)) node has) [
        | inl front ↦ wider last (last + node_count first) last (last + (node_count first + node_count_of rest)) node (omega arith) (omega arith) (between last first node front)
        | inr back ↦ wider (last + node_count first) (last + node_count first + node_count_of rest) last (last + (node_count first + node_count_of rest)) node (omega arith) (omega arith) (parts_between (last + node_count first) rest node back)
      ]

-- no variable is that of two nodes
record AreApart (nodes : List Node) : Type 0 where
  one : (node other : Node) → Contains nodes node → Contains nodes other → variable node ≡ variable other → node ≡ other

apart_one : (first : Node) → AreApart (first ∷ [])
apart_one first = record { one = λ node other has also same. sym (only first node has) ∙ only first other also }

apart-append : (xs ys : List Node) → AreApart xs → AreApart ys → ((node other : Node) → Contains xs node → Contains ys other → variable node ≢ variable other) → AreApart (xs ++ ys)
apart-append xs ys left right differ = record {
  one = λ node other has also same.
      elim (Contains-append_cases xs ys node has) [
        | inl l ↦ elim (Contains-append_cases xs ys other also) [
          | inl m ↦ left.one node other l m same
          | inr m ↦ absurd (differ node other l m same)
        ]
        | inr r ↦ elim (Contains-append_cases xs ys other also) [
          | inl m ↦ absurd (differ other node m r (sym same))
          | inr m ↦ right.one node other r m same
        ]
      ];
}

-- a node is apart from those with greater variables
apart_push : (xs : List Node) (own : Node) → AreApart xs → ((node : Node) → Contains xs node → variable own < variable node) → AreApart (xs ++ own ∷ [])
apart_push xs own left above =
    apart-append xs (own ∷ []) left (apart_one own) (λ node other has also same.
    let is = ap variable (only own other also) in let more = above node has in absurd (omega arith))

mutual
  apart : (last : ℕ) (c : Condition) → AreApart (nodes_of (numbered last c))
  apart last Always = apart_one (always_at (last + 1))
  apart last Never = apart_one (never_at (last + 1))
  apart last (Feature feature) = apart_one (feature_at (last + 1) feature)
  apart last (Inverse inner) =
      apart_push (nodes_of (numbered (last + 1) inner)) (numbered last (Inverse inner)) (apart (last + 1) inner) (λ node has. (between (last + 1) inner node has).above)
  apart last (All_of parts) =
      apart_push (nodes_of_parts (numbered_parts (last + 1) parts)) (numbered last (All_of parts)) (parts_apart (last + 1) parts) (λ node has. (parts_between (last + 1) parts node has).above)
  apart last (Any_of parts) =
      apart_push (nodes_of_parts (numbered_parts (last + 1) parts)) (numbered last (Any_of parts)) (parts_apart (last + 1) parts) (λ node has. (parts_between (last + 1) parts node has).above)

  parts_apart : (last : ℕ) (parts : Conditions) → AreApart (nodes_of_parts (numbered_parts last parts))
  parts_apart last none = record { one = λ node other (k, within, is) also same. absurd (omega arith) }
  parts_apart last (more first rest) =
      apart-append (nodes_of (numbered last first)) (nodes_of_parts (numbered_parts (last + node_count first) rest)) (apart last first) (parts_apart (last + node_count first) rest) (λ node other has also same.
      let upto = (between last first node has).upto in let above = (parts_between (last + node_count first) rest other also).above in absurd (omega arith))

-- the clauses are of the form
variable_of-negated : (v : ℕ) → variable_of (negated v) ≡ v
variable_of-negated zero = refl
variable_of-negated (suc n) = refl

-- numbers that rise, from above one number up to another
abbrev Rises : ℕ → ℕ → List ℕ → Type 0
Rises low high [] = Unit {0}
Rises low high (v ∷ vs) = (low < v) × (v ≤ high) × Rises v high vs

rises_wider : (low high low' high' : ℕ) (vs : List ℕ) → low' ≤ low → high ≤ high' → Rises low high vs → Rises low' high' vs
rises_wider low high low' high' [] below above rises = tt
rises_wider low high low' high' (v ∷ vs) below above rises =
    (let a = rises.0 in omega arith, let b = rises.1 in omega arith, rises_wider v high v high' vs (omega arith) above rises.2)

parts_rise : (last : ℕ) (parts : Conditions) → Rises last (last + node_count_of parts) (part_variables (numbered_parts last parts))
parts_rise last none = tt
parts_rise last (more first rest) =
    let own = variable-numbered last first in
    let some = node_count_some first in (
      omega arith,
      omega arith,
      rises_wider (last + node_count first) (last + node_count first + node_count_of rest) (variable (numbered last first)) (last + (node_count first + node_count_of rest)) (part_variables (numbered_parts (last + node_count first) rest)) (omega arith) (omega arith) (parts_rise (last + node_count first) rest),
    )

module _ (vars : ℕ) where
  literal_formed : (literal : ℤ) → 1 ≤ variable_of literal → variable_of literal ≤ vars → is_literal vars literal ≡ true
  literal_formed literal some fits = grind (arith, nat_tests)

  unit_formed : (literal : ℤ) → 1 ≤ variable_of literal → variable_of literal ≤ vars → is_clause vars (literal ∷ []) ≡ true
  unit_formed literal some fits = rw (literal_formed literal some fits) refl

  pair_formed : (one other : ℤ) → 1 ≤ variable_of one → variable_of one ≤ vars → 1 ≤ variable_of other → variable_of other ≤ vars → variable_of other ≢ variable_of one → is_clause vars (one ∷ other ∷ []) ≡ true
  pair_formed one other some fits some_other fits_other differ =
      let apart_test : eqb (variable_of other) (variable_of one) ≡ false = grind (arith, nat_tests) in
      rw (literal_formed one some fits, literal_formed other some_other fits_other, apart_test) refl

  module _ (literal : ℕ → ℤ) (over : (v : ℕ) → variable_of (literal v) ≡ v) where
    not_named : (low high v : ℕ) (vs : List ℕ) → v ≤ low → Rises low high vs → names_variable (map literal vs) v ≡ false
    not_named low high v [] below rises = refl
    not_named low high v (first ∷ rest) below rises =
        let above = rises.0 in
        let test : eqb first v ≡ false = grind (arith, nat_tests) in
        rw (over first, test) (not_named first high v rest (omega arith) rises.2)

    rising_formed : (low high : ℕ) (vs : List ℕ) → high ≤ vars → Rises low high vs → is_clause vars (map literal vs) ≡ true
    rising_formed low high [] fits rises = refl
    rising_formed low high (first ∷ rest) fits rises =
        let a = rises.0 in
        let b = rises.1 in
        let formed = literal_formed (literal first) (rw (over first) (omega arith)) (rw (over first) (omega arith)) in
        let alone : names_variable (map literal rest) (variable_of (literal first)) ≡ false = rw (over first) (not_named first high first rest (omega arith) rises.2) in
        rw (formed, alone) (rising_formed first high rest fits rises.2)

    long_formed : (head : ℤ) (v high : ℕ) (vs : List ℕ) → variable_of head ≡ v → 1 ≤ v → v ≤ vars → high ≤ vars → Rises v high vs → is_clause vars (head ∷ map literal vs) ≡ true
    long_formed head v high vs is some small fits rises =
        let alone : names_variable (map literal vs) (variable_of head) ≡ false = rw is (not_named v high v vs (omega arith) rises) in
        rw (literal_formed head (rw is some) (rw is small), alone) (rising_formed v high vs fits rises)

    shorts_formed : (head : ℤ) (v low high : ℕ) (vs : List ℕ) → variable_of head ≡ v → 1 ≤ v → v ≤ vars → v ≤ low → high ≤ vars → Rises low high vs → list_all (is_clause vars) (map (λ part. head ∷ literal part ∷ []) vs) ≡ true
    shorts_formed head v low high [] is some small below fits rises = refl
    shorts_formed head v low high (first ∷ rest) is some small below fits rises =
        let a = rises.0 in
        let b = rises.1 in
        let e = over first in
        both_true (pair_formed head (literal first) (omega arith) (omega arith) (omega arith) (omega arith) (λ same. absurd (omega arith))) (shorts_formed head v first high rest is some small (omega arith) fits rises.2)

  module _ (features : ℕ) where
    feature_formed : (v feature : ℕ) → features < v → v ≤ vars → feature < features → list_all (is_clause vars) (definition (feature_at v feature)) ≡ true
    feature_formed v feature above fits below =
        let e = variable_of-negated v in
        let f = variable_of-negated (feature_variable feature) in
        both_true (pair_formed (negated v) (pos (feature_variable feature)) (omega arith) (omega arith) (omega arith) (omega arith) (λ same. absurd (omega arith))) (both_true (pair_formed (pos v) (negated (feature_variable feature)) (omega arith) (omega arith) (omega arith) (omega arith) (λ same. absurd (omega arith))) refl)

    inverse_formed : (v : ℕ) (inner : Node) → 1 ≤ v → v < variable inner → variable inner ≤ vars → list_all (is_clause vars) (definition (inverse_at v inner)) ≡ true
    inverse_formed v inner some above fits =
        let e = variable_of-negated v in
        let f = variable_of-negated (variable inner) in
        both_true (pair_formed (negated v) (negated (variable inner)) (omega arith) (omega arith) (omega arith) (omega arith) (λ same. absurd (omega arith))) (both_true (pair_formed (pos v) (pos (variable inner)) (omega arith) (omega arith) (omega arith) (omega arith) (λ same. absurd (omega arith))) refl)

    all_formed : (v high : ℕ) (parts : Parts) → 1 ≤ v → v ≤ vars → high ≤ vars → Rises v high (part_variables parts) → list_all (is_clause vars) (definition (all_at v parts)) ≡ true
    all_formed v high parts some small fits rises =
        both_true (long_formed negated variable_of-negated (pos v) v high (part_variables parts) refl some small fits rises) (shorts_formed pos (λ w. refl) (negated v) v v high (part_variables parts) (variable_of-negated v) some small (omega arith) fits rises)

    any_formed : (v high : ℕ) (parts : Parts) → 1 ≤ v → v ≤ vars → high ≤ vars → Rises v high (part_variables parts) → list_all (is_clause vars) (definition (any_at v parts)) ≡ true
    any_formed v high parts some small fits rises =
        both_true (long_formed pos (λ w. refl) (negated v) v high (part_variables parts) (variable_of-negated v) some small fits rises) (shorts_formed negated variable_of-negated (pos v) v v high (part_variables parts) refl some small (omega arith) fits rises)

    mutual
      formed : (last : ℕ) (c : Condition) → features ≤ last → last + node_count c ≤ vars → VarsBelow features c → list_all (is_clause vars) (flat_map definition (nodes_of (numbered last c))) ≡ true
      formed last Always above fits below = both_true (unit_formed (pos (last + 1)) (omega arith) (omega arith)) refl
      formed last Never above fits below =
          let e = variable_of-negated (last + 1) in both_true (unit_formed (negated (last + 1)) (omega arith) (omega arith)) refl
      formed last (Feature feature) above fits below = feature_formed (last + 1) feature (omega arith) (omega arith) below
      formed last (Inverse inner) above fits below =
          let own = variable-numbered (last + 1) inner in
          let some = node_count_some inner in
          each_definition-push (is_clause vars) (nodes_of (numbered (last + 1) inner)) (numbered last (Inverse inner)) ∙ both_true (formed (last + 1) inner (omega arith) (omega arith) below) (inverse_formed (last + 1) (numbered (last + 1) inner) (omega arith) (omega arith) (omega arith))
      formed last (All_of parts) above fits below =
          each_definition-push (is_clause vars) (nodes_of_parts (numbered_parts (last + 1) parts)) (numbered last (All_of parts)) ∙ both_true (parts_formed (last + 1) parts (omega arith) (omega arith) below) (all_formed (last + 1) (last + 1 + node_count_of parts) (numbered_parts (last + 1) parts) (omega arith) (omega arith) (omega arith) (parts_rise (last + 1) parts))
      formed last (Any_of parts) above fits below =
          each_definition-push (is_clause vars) (nodes_of_parts (numbered_parts (last + 1) parts)) (numbered last (Any_of parts)) ∙ both_true (parts_formed (last + 1) parts (omega arith) (omega arith) below) (any_formed (last + 1) (last + 1 + node_count_of parts) (numbered_parts (last + 1) parts) (omega arith) (omega arith) (omega arith) (parts_rise (last + 1) parts))

      parts_formed : (last : ℕ) (parts : Conditions) → features ≤ last → last + node_count_of parts ≤ vars → AllVarsBelow features parts → list_all (is_clause vars) (flat_map definition (nodes_of_parts (numbered_parts last parts))) ≡ true
      parts_formed last none above fits below = refl
      parts_formed last (more first rest) above fits below =
          each_definition-append (is_clause vars) (nodes_of (numbered last first)) (nodes_of_parts (numbered_parts (last + node_count first) rest)) ∙ both_true (formed last first above (omega arith) below.0) (parts_formed (last + node_count first) rest (omega arith) (omega arith) below.1)

-- clauses that stand in a list stand among it
same_literals : (clause : List ℤ) → SameLiterals clause clause
same_literals clause = record { there = λ literal has. has; back = λ literal has. has }

among_from : (others clauses : List (List ℤ)) → ((clause : List ℤ) → Contains clauses clause → Contains others clause) → AreAmong others clauses
among_from others clauses moved =
    All-weaker (Contains clauses) (λ clause. Any (SameLiterals clause) others) (λ clause has.
    let there = moved clause has in (there.0, clause, there.1, there.2, same_literals clause)) clauses (All-contains_itself clauses)

turned : (first : List ℤ) (rest : List (List ℤ)) (clause : List ℤ) → Contains (first ∷ rest) clause → Contains (rest ++ first ∷ []) clause
turned first rest clause has =
    elim (Contains-append_cases (first ∷ []) rest clause has) [
      | inl this ↦ Contains-append_right rest (first ∷ []) clause this
      | inr later ↦ Contains-append_left rest (first ∷ []) clause later
    ]

turned_back : (first : List ℤ) (rest : List (List ℤ)) (clause : List ℤ) → Contains (rest ++ first ∷ []) clause → Contains (first ∷ rest) clause
turned_back first rest clause has =
    elim (Contains-append_cases rest (first ∷ []) clause has) [
      | inl later ↦ Contains-append_right (first ∷ []) rest clause later
      | inr this ↦ Contains-append_left (first ∷ []) rest clause this
    ]

pub numbered_translation : (features : ℕ) (c : Condition) (vars : ℕ) (given : List (List ℤ)) → VarsBelow features c → vars ≡ features + node_count c → given ≡ node_clauses features c ++ (pos (features + 1) ∷ []) ∷ [] → IsTranslation features c vars given
unfolding node_clauses
numbered_translation features c vars given below counted is =
    let root = numbered features c in
    let top : List ℤ = pos (variable root) ∷ [] in
    let rest : List (List ℤ) = flat_map definition (nodes_of root) in
    let own = variable-numbered features c in
    let some = node_count_some c in
    let made : given ≡ rest ++ top ∷ [] = is ∙ ap (λ (v : ℕ). rest ++ (pos v ∷ []) ∷ []) (sym own) in
    rw made (record {
      root = root;
      of_condition = numbered_condition features c;
      above = All-weaker (Contains (nodes_of root)) (λ (node : Node). features < variable node) (λ node has. (between features c node has).above) (nodes_of root) (All-contains_itself (nodes_of root));
      shared = λ one other has also same. ap condition_at ((apart features c).one one other has also same);
      all_there = among_from (rest ++ top ∷ []) (top ∷ rest) (turned top rest);
      no_other = among_from (top ∷ rest) (rest ++ top ∷ []) (turned_back top rest);
      formed = list_all-append (is_clause vars) rest (top ∷ []) ∙ both_true (formed vars features features c (omega arith) (omega arith) below) (both_true (unit_formed vars (pos (variable root)) (omega arith) (omega arith)) refl);
    })

flat_map-push : (xs : List Node) (node : Node) → flat_map definition (xs ++ node ∷ []) ≡ flat_map definition xs ++ definition node
flat_map-push xs node = flat_map-append definition xs (node ∷ []) ∙ ap (λ (clauses : List (List ℤ)). flat_map definition xs ++ clauses) (append-nil (definition node))

-- The clauses and variables of each kind of condition.
pub node_clauses-Always : (last : ℕ) → node_clauses last Always ≡ (signed true (last + 1) ∷ []) ∷ []
unfolding node_clauses
node_clauses-Always last = refl

pub node_clauses-Never : (last : ℕ) → node_clauses last Never ≡ (signed false (last + 1) ∷ []) ∷ []
unfolding node_clauses
node_clauses-Never last = refl

pub node_clauses-Feature : (last feature : ℕ) → node_clauses last (Feature feature) ≡ link true (last + 1) (feature + 1)
unfolding node_clauses
node_clauses-Feature last feature = refl

pub node_clauses-Inverse : (last : ℕ) (inner : Condition) → node_clauses last (Inverse inner) ≡ node_clauses (last + 1) inner ++ link false (last + 1) (last + 1 + 1)
unfolding node_clauses
node_clauses-Inverse last inner =
    flat_map-push (nodes_of (numbered (last + 1) inner)) (numbered last (Inverse inner))
    ∙ ap (λ (v : ℕ). flat_map definition (nodes_of (numbered (last + 1) inner)) ++ link false (last + 1) v) (variable-numbered (last + 1) inner)

pub node_clauses-All_of : (last : ℕ) (parts : Conditions) → node_clauses last (All_of parts) ≡ parts_clauses (last + 1) parts ++ gate true (last + 1) (parts_variables (last + 1) parts)
unfolding node_clauses parts_clauses parts_variables
node_clauses-All_of last parts = flat_map-push (nodes_of_parts (numbered_parts (last + 1) parts)) (numbered last (All_of parts))

pub node_clauses-Any_of : (last : ℕ) (parts : Conditions) → node_clauses last (Any_of parts) ≡ parts_clauses (last + 1) parts ++ gate false (last + 1) (parts_variables (last + 1) parts)
unfolding node_clauses parts_clauses parts_variables
node_clauses-Any_of last parts = flat_map-push (nodes_of_parts (numbered_parts (last + 1) parts)) (numbered last (Any_of parts))

pub parts_clauses-none : (last : ℕ) → parts_clauses last none ≡ []
unfolding parts_clauses
parts_clauses-none last = refl

pub parts_clauses-more : (last : ℕ) (first : Condition) (rest : Conditions) → parts_clauses last (more first rest) ≡ node_clauses last first ++ parts_clauses (last + node_count first) rest
unfolding node_clauses parts_clauses
parts_clauses-more last first rest = flat_map-append definition (nodes_of (numbered last first)) (nodes_of_parts (numbered_parts (last + node_count first) rest))

pub parts_variables-none : (last : ℕ) → parts_variables last none ≡ []
unfolding parts_variables
parts_variables-none last = refl

pub parts_variables-more : (last : ℕ) (first : Condition) (rest : Conditions) → parts_variables last (more first rest) ≡ (last + 1) ∷ parts_variables (last + node_count first) rest
unfolding parts_variables
parts_variables-more last first rest = rw (variable-numbered last first) refl

pub ruleset numberings = (common_steps, formula_kinds, node_clauses-Always, node_clauses-Never, node_clauses-Feature, node_clauses-Inverse, node_clauses-All_of, node_clauses-Any_of, parts_clauses-none, parts_clauses-more, parts_variables-none, parts_variables-more)
