-- Where the clauses that define a node hold.
use Rattle.std.proofs.Common.{◌≡◌, ℕ, zero, suc, ◌<◌, Bool, true, false, not, ◌&&◌, ◌||◌, ℤ, pos, List, [], ◌∷◌, ◌++◌, map, Contains, refl, sym, ap, ◌∙◌, arith}
use Rattle.std.proofs.lemmas.List.{append-nil}
use Rattle.std.proofs.lemmas.List.Concat.{flat_map-append}
use Rattle.std.proofs.lemmas.List.Elements.{Contains-append_left, Contains-append_right, Contains-push}
use Rattle.std.proofs.lemmas.List.Folds.{list_all-append}
use Rattle.std.specs.Cmp.Derive.{both_true}
use Rattle.std.specs.List.{list_all, list_any, flat_map}
use Rattle.cond_formula.specs.Conditions.{value, all_true, any_true}
use Rattle.refute_check.specs.Clauses.{literal_holds, clause_holds, all_hold}
use Rattle.sat_core.specs.Nodes.{Node, Parts, always_at, never_at, feature_at, inverse_at, all_at, any_at, no_part, part_then, variable, condition_at, conditions_at, nodes_of, nodes_of_parts, part_variables, negated, feature_variable, definition}
use Rattle.sat_core.specs.Translations.{features_of}
use Rattle.refute_check.specs.StepLaws.{left_true, right_true}
use Rattle.sat_core.proofs.BoolLaws.{same, equal_from_same, same_from_equal}

-- a test of the clauses that define nodes
module _ (test : List ℤ → Bool) where
  pub each_definition-append : (xs ys : List Node) → list_all test (flat_map definition (xs ++ ys)) ≡ (list_all test (flat_map definition xs) && list_all test (flat_map definition ys))
  each_definition-append xs ys =
      ap (list_all test) (flat_map-append definition xs ys) ∙ list_all-append test (flat_map definition xs) (flat_map definition ys)

  pub each_definition-push : (xs : List Node) (node : Node) → list_all test (flat_map definition (xs ++ node ∷ [])) ≡ (list_all test (flat_map definition xs) && list_all test (definition node))
  each_definition-push xs node =
      each_definition-append xs (node ∷ []) ∙ ap (λ (clauses : List (List ℤ)). list_all test (flat_map definition xs) && list_all test clauses) (append-nil (definition node))

module _ (values : ℕ → Bool) where
  negated_holds : (v : ℕ) → 0 < v → literal_holds values (negated v) ≡ not (values v)
  negated_holds zero some = absurd (omega arith)
  negated_holds (suc n) some = refl

  -- the node's variable is true where the condition is
  pub record IsSound (node : Node) : Type 0 where
    pub some : 0 < variable node
    pub equal : values (variable node) ≡ value (features_of values) (condition_at node)

  abbrev pub AreSound : Parts → Type 0
  AreSound no_part = Unit {0}
  AreSound (part_then first rest) = IsSound first × AreSound rest

  always_table : (a : Bool) → ((a || false) && true) ≡ same a true
  always_table true = refl
  always_table false = refl

  never_table : (a : Bool) → ((not a || false) && true) ≡ same a false
  never_table true = refl
  never_table false = refl

  equal_table : (a b : Bool) → ((not a || (b || false)) && ((a || (not b || false)) && true)) ≡ same a b
  equal_table true true = refl
  equal_table true false = refl
  equal_table false true = refl
  equal_table false false = refl

  inverse_table : (a b : Bool) → ((not a || (not b || false)) && ((a || (b || false)) && true)) ≡ same a (not b)
  inverse_table true true = refl
  inverse_table true false = refl
  inverse_table false true = refl
  inverse_table false false = refl

  all_table : (a b : Bool) → ((a || not b) && (not a || b)) ≡ same a b
  all_table true true = refl
  all_table true false = refl
  all_table false true = refl
  all_table false false = refl

  any_table : (a b : Bool) → ((not a || b) && (a || not b)) ≡ same a b
  any_table true true = refl
  any_table true false = refl
  any_table false true = refl
  any_table false false = refl

  not_both : (a b : Bool) → (not a || not b) ≡ not (a && b)
  not_both true b = refl
  not_both false b = refl

  implied_more : (a b rest : Bool) → ((not a || (b || false)) && (not a || rest)) ≡ (not a || (b && rest))
  implied_more true true rest = refl
  implied_more true false rest = refl
  implied_more false b rest = refl

  implying_more : (a b rest : Bool) → ((a || (not b || false)) && (a || not rest)) ≡ (a || not (b || rest))
  implying_more true b rest = refl
  implying_more false true rest = refl
  implying_more false false rest = refl

  or_true : (a : Bool) → true ≡ (a || true)
  or_true true = refl
  or_true false = refl

  abbrev on : ℕ → Bool
  on = features_of values

  -- of all parts
  some_is_false : (parts : Parts) → AreSound parts → list_any (literal_holds values) (map negated (part_variables parts)) ≡ not (all_true on (conditions_at parts))
  some_is_false no_part sound = refl
  some_is_false (part_then first rest) sound =
      rw (negated_holds (variable first) sound.0.some, sound.0.equal, some_is_false rest sound.1) (not_both (value on (condition_at first)) (all_true on (conditions_at rest)))

  each_follows : (v : ℕ) → 0 < v → (parts : Parts) → AreSound parts → all_hold values (map (λ part. negated v ∷ pos part ∷ []) (part_variables parts)) ≡ (not (values v) || all_true on (conditions_at parts))
  each_follows v some no_part sound = or_true (not (values v))
  each_follows v some (part_then first rest) sound =
      rw (negated_holds v some, sound.0.equal, each_follows v some rest sound.1) (implied_more (values v) (value on (condition_at first)) (all_true on (conditions_at rest)))

  -- of one part at least
  some_is_true : (parts : Parts) → AreSound parts → list_any (literal_holds values) (map pos (part_variables parts)) ≡ any_true on (conditions_at parts)
  some_is_true no_part sound = refl
  some_is_true (part_then first rest) sound = rw (sound.0.equal, some_is_true rest sound.1)

  it_follows : (v : ℕ) → (parts : Parts) → AreSound parts → all_hold values (map (λ part. pos v ∷ negated part ∷ []) (part_variables parts)) ≡ (values v || not (any_true on (conditions_at parts)))
  it_follows v no_part sound = or_true (values v)
  it_follows v (part_then first rest) sound =
      rw (negated_holds (variable first) sound.0.some, sound.0.equal, it_follows v rest sound.1) (implying_more (values v) (value on (condition_at first)) (any_true on (conditions_at rest)))

  always_holds : (v : ℕ) → all_hold values (definition (always_at v)) ≡ same (values v) true
  always_holds v = always_table (values v)

  never_holds : (v : ℕ) → 0 < v → all_hold values (definition (never_at v)) ≡ same (values v) false
  never_holds v some = rw (negated_holds v some) (never_table (values v))

  feature_holds : (v feature : ℕ) → 0 < v → all_hold values (definition (feature_at v feature)) ≡ same (values v) (on feature)
  feature_holds v feature some =
      rw (negated_holds v some, negated_holds (feature_variable feature) (omega arith)) (equal_table (values v) (on feature))

  inverse_holds : (v : ℕ) (inner : Node) → 0 < v → IsSound inner → all_hold values (definition (inverse_at v inner)) ≡ same (values v) (not (value on (condition_at inner)))
  inverse_holds v inner some sound =
      rw (negated_holds v some, negated_holds (variable inner) sound.some, sound.equal) (inverse_table (values v) (value on (condition_at inner)))

  all_holds : (v : ℕ) (parts : Parts) → 0 < v → AreSound parts → all_hold values (definition (all_at v parts)) ≡ same (values v) (all_true on (conditions_at parts))
  all_holds v parts some sound =
      rw (some_is_false parts sound, each_follows v some parts sound) (all_table (values v) (all_true on (conditions_at parts)))

  any_holds : (v : ℕ) (parts : Parts) → 0 < v → AreSound parts → all_hold values (definition (any_at v parts)) ≡ same (values v) (any_true on (conditions_at parts))
  any_holds v parts some sound =
      rw (negated_holds v some, some_is_true parts sound, it_follows v parts sound) (any_table (values v) (any_true on (conditions_at parts)))

  -- the clauses that define these nodes
  abbrev pub defined : List Node → Bool
  defined nodes = all_hold values (flat_map definition nodes)

  defined-append : (xs ys : List Node) → defined (xs ++ ys) ≡ (defined xs && defined ys)
  defined-append = each_definition-append (clause_holds values)

  defined-push : (xs : List Node) (node : Node) → defined (xs ++ node ∷ []) ≡ (defined xs && all_hold values (definition node))
  defined-push = each_definition-push (clause_holds values)

  -- Where the clauses hold, each node is sound.
  mutual
    pub sound_from_defined : (node : Node) → ((other : Node) → Contains (nodes_of node) other → 0 < variable other) → defined (nodes_of node) ≡ true → IsSound node
    sound_from_defined (always_at v) some holds =
        record { some = some (always_at v) (Contains-push [] (always_at v)); equal = equal_from_same (values v) true (sym (always_holds v) ∙ holds) }
    sound_from_defined (never_at v) some holds =
        let has = some (never_at v) (Contains-push [] (never_at v)) in
        record { some = has; equal = equal_from_same (values v) false (sym (never_holds v has) ∙ holds) }
    sound_from_defined (feature_at v feature) some holds =
        let has = some (feature_at v feature) (Contains-push [] (feature_at v feature)) in
        record { some = has; equal = equal_from_same (values v) (on feature) (sym (feature_holds v feature has) ∙ holds) }
    sound_from_defined (inverse_at v inner) some holds =
        let node = inverse_at v inner in
        let has = some node (Contains-push (nodes_of inner) node) in
        let both : (defined (nodes_of inner) && all_hold values (definition node)) ≡ true = sym (defined-push (nodes_of inner) node) ∙ holds in
        let sound = sound_from_defined inner (λ other is. some other (Contains-append_left (nodes_of inner) (node ∷ []) other is)) (left_true (defined (nodes_of inner)) (all_hold values (definition node)) both) in
        record { some = has; equal = equal_from_same (values v) (not (value on (condition_at inner))) (sym (inverse_holds v inner has sound) ∙ right_true (defined (nodes_of inner)) (all_hold values (definition node)) both) }
    sound_from_defined (all_at v parts) some holds =
        let node = all_at v parts in
        let has = some node (Contains-push (nodes_of_parts parts) node) in
        let both : (defined (nodes_of_parts parts) && all_hold values (definition node)) ≡ true = sym (defined-push (nodes_of_parts parts) node) ∙ holds in
        let sound = parts_sound parts (λ other is. some other (Contains-append_left (nodes_of_parts parts) (node ∷ []) other is)) (left_true (defined (nodes_of_parts parts)) (all_hold values (definition node)) both) in
        record { some = has; equal = equal_from_same (values v) (all_true on (conditions_at parts)) (sym (all_holds v parts has sound) ∙ right_true (defined (nodes_of_parts parts)) (all_hold values (definition node)) both) }
    sound_from_defined (any_at v parts) some holds =
        let node = any_at v parts in
        let has = some node (Contains-push (nodes_of_parts parts) node) in
        let both : (defined (nodes_of_parts parts) && all_hold values (definition node)) ≡ true = sym (defined-push (nodes_of_parts parts) node) ∙ holds in
        let sound = parts_sound parts (λ other is. some other (Contains-append_left (nodes_of_parts parts) (node ∷ []) other is)) (left_true (defined (nodes_of_parts parts)) (all_hold values (definition node)) both) in
        record { some = has; equal = equal_from_same (values v) (any_true on (conditions_at parts)) (sym (any_holds v parts has sound) ∙ right_true (defined (nodes_of_parts parts)) (all_hold values (definition node)) both) }

    parts_sound : (parts : Parts) → ((other : Node) → Contains (nodes_of_parts parts) other → 0 < variable other) → defined (nodes_of_parts parts) ≡ true → AreSound parts
    parts_sound no_part some holds = tt
    parts_sound (part_then first rest) some holds =
        let both : (defined (nodes_of first) && defined (nodes_of_parts rest)) ≡ true = sym (defined-append (nodes_of first) (nodes_of_parts rest)) ∙ holds in (
          sound_from_defined first (λ other is. some other (Contains-append_left (nodes_of first) (nodes_of_parts rest) other is)) (left_true (defined (nodes_of first)) (defined (nodes_of_parts rest)) both),
          parts_sound rest (λ other is. some other (Contains-append_right (nodes_of first) (nodes_of_parts rest) other is)) (right_true (defined (nodes_of first)) (defined (nodes_of_parts rest)) both),
        )

  -- a node is among its nodes
  pub own_node : (node : Node) → Contains (nodes_of node) node
  own_node (always_at v) = Contains-push [] (always_at v)
  own_node (never_at v) = Contains-push [] (never_at v)
  own_node (feature_at v feature) = Contains-push [] (feature_at v feature)
  own_node (inverse_at v inner) = Contains-push (nodes_of inner) (inverse_at v inner)
  own_node (all_at v parts) = Contains-push (nodes_of_parts parts) (all_at v parts)
  own_node (any_at v parts) = Contains-push (nodes_of_parts parts) (any_at v parts)

  -- Where each node is sound, the clauses hold.
  mutual
    pub defined_from_sound : (node : Node) → ((other : Node) → Contains (nodes_of node) other → IsSound other) → defined (nodes_of node) ≡ true
    defined_from_sound (always_at v) sound =
        always_holds v ∙ same_from_equal (values v) true (sound (always_at v) (own_node (always_at v))).equal
    defined_from_sound (never_at v) sound =
        let own = sound (never_at v) (own_node (never_at v)) in
        never_holds v own.some ∙ same_from_equal (values v) false own.equal
    defined_from_sound (feature_at v feature) sound =
        let own = sound (feature_at v feature) (own_node (feature_at v feature)) in
        feature_holds v feature own.some ∙ same_from_equal (values v) (on feature) own.equal
    defined_from_sound (inverse_at v inner) sound =
        let node = inverse_at v inner in
        let own = sound node (own_node node) in
        let parts = sound inner (Contains-append_left (nodes_of inner) (node ∷ []) inner (own_node inner)) in
        defined-push (nodes_of inner) node ∙ both_true (defined_from_sound inner (λ other is. sound other (Contains-append_left (nodes_of inner) (node ∷ []) other is))) (inverse_holds v inner own.some parts ∙ same_from_equal (values v) (not (value on (condition_at inner))) own.equal)
    defined_from_sound (all_at v parts) sound =
        let node = all_at v parts in
        let own = sound node (own_node node) in
        let made = parts_defined parts (λ other is. sound other (Contains-append_left (nodes_of_parts parts) (node ∷ []) other is)) in
        defined-push (nodes_of_parts parts) node ∙ both_true made.0 (all_holds v parts own.some made.1 ∙ same_from_equal (values v) (all_true on (conditions_at parts)) own.equal)
    defined_from_sound (any_at v parts) sound =
        let node = any_at v parts in
        let own = sound node (own_node node) in
        let made = parts_defined parts (λ other is. sound other (Contains-append_left (nodes_of_parts parts) (node ∷ []) other is)) in
        defined-push (nodes_of_parts parts) node ∙ both_true made.0 (any_holds v parts own.some made.1 ∙ same_from_equal (values v) (any_true on (conditions_at parts)) own.equal)

    parts_defined : (parts : Parts) → ((other : Node) → Contains (nodes_of_parts parts) other → IsSound other) → (defined (nodes_of_parts parts) ≡ true) × AreSound parts
    parts_defined no_part sound = (refl, tt)
    parts_defined (part_then first rest) sound =
        let front = λ (other : Node) (is : Contains (nodes_of first) other). sound other (Contains-append_left (nodes_of first) (nodes_of_parts rest) other is) in
        let back = parts_defined rest (λ other is. sound other (Contains-append_right (nodes_of first) (nodes_of_parts rest) other is)) in (
          defined-append (nodes_of first) (nodes_of_parts rest) ∙ both_true (defined_from_sound first front) back.0,
          (front first (own_node first), back.1),
        )
