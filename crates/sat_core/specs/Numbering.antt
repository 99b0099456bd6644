-- Numbers for the nodes of a condition: each node its own, one after another from the root on; and the clauses in the order in
-- which they are made.
use Rattle.std.specs.Prelude.{ℕ, ◌+◌, ℤ, pos, Bool, true, false, not, List, [], ◌∷◌, map}
use Rattle.std.specs.List.{flat_map}
use Rattle.cond_formula.specs.Conditions.{Condition, Conditions, Always, Never, Feature, Inverse, All_of, Any_of, none, more}
use Rattle.sat_core.specs.Nodes.{Node, Parts, always_at, never_at, feature_at, inverse_at, all_at, any_at, no_part, part_then, nodes_of, nodes_of_parts, part_variables, negated, definition}

-- How many nodes there are.
abbrev mutual
  pub node_count : Condition → ℕ
  node_count (Inverse inner) = 1 + node_count inner
  node_count (All_of parts) = 1 + node_count_of parts
  node_count (Any_of parts) = 1 + node_count_of parts
  node_count leaf = 1

  pub node_count_of : Conditions → ℕ
  node_count_of none = 0
  node_count_of (more first rest) = node_count first + node_count_of rest

-- The condition with the variables after the last one that is taken.
abbrev mutual
  pub numbered : ℕ → Condition → Node
  numbered last Always = always_at (last + 1)
  numbered last Never = never_at (last + 1)
  numbered last (Feature feature) = feature_at (last + 1) feature
  numbered last (Inverse inner) = inverse_at (last + 1) (numbered (last + 1) inner)
  numbered last (All_of parts) = all_at (last + 1) (numbered_parts (last + 1) parts)
  numbered last (Any_of parts) = any_at (last + 1) (numbered_parts (last + 1) parts)

  pub numbered_parts : ℕ → Conditions → Parts
  numbered_parts last none = no_part
  numbered_parts last (more first rest) =
      part_then (numbered last first) (numbered_parts (last + node_count first) rest)

-- the clauses that define the nodes
unfoldable pub node_clauses : ℕ → Condition → List (List ℤ)
node_clauses last condition = flat_map definition (nodes_of (numbered last condition))

unfoldable pub parts_clauses : ℕ → Conditions → List (List ℤ)
parts_clauses last parts = flat_map definition (nodes_of_parts (numbered_parts last parts))

-- the variables of the parts
unfoldable pub parts_variables : ℕ → Conditions → List ℕ
parts_variables last parts = part_variables (numbered_parts last parts)

-- the variable, or its negation
abbrev pub signed : Bool → ℕ → ℤ
signed true v = pos v
signed false v = negated v

-- The clauses that hold where the variable is true exactly where the part is, or, where `positive` is false, where it isn't.
abbrev pub link : Bool → ℕ → ℕ → List (List ℤ)
link positive v part =
    (signed false v ∷ signed positive part ∷ []) ∷ (signed true v ∷ signed (not positive) part ∷ []) ∷ []

-- the clause of a conjunction or a disjunction that names all its parts
abbrev pub long_clause : Bool → ℕ → List ℕ → List ℤ
long_clause positive v parts = signed positive v ∷ map (signed (not positive)) parts

-- the clauses that name one part each
abbrev pub short_clauses : Bool → ℕ → List ℕ → List (List ℤ)
short_clauses positive v parts = map (λ part. signed (not positive) v ∷ signed positive part ∷ []) parts

-- The clauses that hold where the variable is true exactly where each of the parts is, or, where `positive` is false, false
-- exactly where each of the parts is.
abbrev pub gate : Bool → ℕ → List ℕ → List (List ℤ)
gate positive v parts = long_clause positive v parts ∷ short_clauses positive v parts
