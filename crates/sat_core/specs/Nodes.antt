-- Conditions with a variable for each of their nodes, and the clauses that define a node's variable by those of its parts.
use Rattle.std.specs.Prelude.{ℕ, ◌+◌, ℤ, pos, List, [], ◌∷◌, ◌++◌, map}
use lib.IntN.{neg_ℤ}
use Rattle.cond_formula.specs.Conditions.{Condition, Conditions, Always, Never, Feature, Inverse, All_of, Any_of, none, more}

-- The number before the other arguments is the node's variable.
mutual
  pub data Node : Type 0 where
    always_at : ℕ → Node
    never_at : ℕ → Node
    feature_at : ℕ → ℕ → Node
    inverse_at : ℕ → Node → Node
    all_at : ℕ → Parts → Node
    any_at : ℕ → Parts → Node

  pub data Parts : Type 0 where
    no_part : Parts
    part_then : Node → Parts → Parts

abbrev pub variable : Node → ℕ
variable (always_at v) = v
variable (never_at v) = v
variable (feature_at v feature) = v
variable (inverse_at v inner) = v
variable (all_at v parts) = v
variable (any_at v parts) = v

-- The condition, without the variables.
abbrev mutual
  pub condition_at : Node → Condition
  condition_at (always_at v) = Always
  condition_at (never_at v) = Never
  condition_at (feature_at v feature) = Feature feature
  condition_at (inverse_at v inner) = Inverse (condition_at inner)
  condition_at (all_at v parts) = All_of (conditions_at parts)
  condition_at (any_at v parts) = Any_of (conditions_at parts)

  pub conditions_at : Parts → Conditions
  conditions_at no_part = none
  conditions_at (part_then first rest) = more (condition_at first) (conditions_at rest)

-- The node after all nodes of its parts.
abbrev mutual
  pub nodes_of : Node → List Node
  nodes_of (inverse_at v inner) = nodes_of inner ++ inverse_at v inner ∷ []
  nodes_of (all_at v parts) = nodes_of_parts parts ++ all_at v parts ∷ []
  nodes_of (any_at v parts) = nodes_of_parts parts ++ any_at v parts ∷ []
  nodes_of leaf = leaf ∷ []

  pub nodes_of_parts : Parts → List Node
  nodes_of_parts no_part = []
  nodes_of_parts (part_then first rest) = nodes_of first ++ nodes_of_parts rest

abbrev pub part_variables : Parts → List ℕ
part_variables no_part = []
part_variables (part_then first rest) = variable first ∷ part_variables rest

-- the negation of a variable as a literal; the variable itself is `pos v`
abbrev pub negated : ℕ → ℤ
negated v = neg_ℤ (pos v)

-- the variable that says whether a feature is on
abbrev pub feature_variable : ℕ → ℕ
feature_variable feature = feature + 1

-- the clauses that hold where the node's variable is true exactly where what the node says of its parts' variables is
abbrev pub definition : Node → List (List ℤ)
definition (always_at v) = (pos v ∷ []) ∷ []
definition (never_at v) = (negated v ∷ []) ∷ []
definition (feature_at v feature) =
    (negated v ∷ pos (feature_variable feature) ∷ []) ∷ (pos v ∷ negated (feature_variable feature) ∷ []) ∷ []
definition (inverse_at v inner) =
    (negated v ∷ negated (variable inner) ∷ []) ∷ (pos v ∷ pos (variable inner) ∷ []) ∷ []
definition (all_at v parts) =
    (pos v ∷ map negated (part_variables parts)) ∷ map (λ part. negated v ∷ pos part ∷ []) (part_variables parts)
definition (any_at v parts) =
    (negated v ∷ map pos (part_variables parts)) ∷ map (λ part. pos v ∷ negated part ∷ []) (part_variables parts)
