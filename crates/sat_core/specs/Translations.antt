-- Translations: lists of clauses that are satisfiable exactly where a condition has a model. Variable i + 1 is feature i, and
-- each node of the condition has a variable above the features, which clauses define by the variables of its parts.
use Rattle.std.specs.Prelude.{◌≡◌, ℕ, ◌<◌, Bool, ℤ, pos, List, [], ◌∷◌, IsTrue, All, Any, Contains}
use Rattle.std.specs.List.{list_all, flat_map}
use Rattle.cond_formula.specs.Conditions.{Condition, value, VarsBelow}
use Rattle.refute_check.specs.Clauses.{is_clause, all_hold}
use Rattle.refute_check.specs.Refutations.{Step, IsRefutation}
use Rattle.sat_core.specs.Nodes.{Node, variable, condition_at, nodes_of, definition, feature_variable}
use Rattle.sat_core.specs.Models.{HasNoModel}

-- the clauses that define each node of this root, and the root alone
abbrev pub defining_clauses : Node → List (List ℤ)
defining_clauses root = (pos (variable root) ∷ []) ∷ flat_map definition (nodes_of root)

-- the same literals, in whatever order and however often
pub record SameLiterals (one other : List ℤ) : Type 0 where
  pub there : (literal : ℤ) → Contains one literal → Contains other literal
  pub back : (literal : ℤ) → Contains other literal → Contains one literal

-- each of the clauses stands among the others
abbrev pub AreAmong : List (List ℤ) → List (List ℤ) → Type 0
AreAmong others clauses = All (λ clause. Any (SameLiterals clause) others) clauses

-- Clauses that define the nodes of the condition, and one that is the root alone, and no other; lists of clauses and of
-- literals are read as sets.
pub record IsTranslation (features : ℕ) (condition : Condition) (vars : ℕ) (given : List (List ℤ)) : Type 0 where
  -- the condition, with a variable for each node
  pub root : Node
  pub of_condition : condition_at root ≡ condition
  pub above : All (λ node. features < variable node) (nodes_of root)
  -- equal nodes may share a variable, others may not
  pub shared : (one other : Node) → Contains (nodes_of root) one → Contains (nodes_of root) other → variable one ≡ variable other → condition_at one ≡ condition_at other
  pub all_there : AreAmong given (defining_clauses root)
  pub no_other : AreAmong (defining_clauses root) given
  -- over these variables, and none of them twice in a clause: repeated literals are dropped
  pub formed : IsTrue (list_all (is_clause vars) given)

-- the features that are on where these are the values of the variables
abbrev pub features_of : (ℕ → Bool) → (ℕ → Bool)
features_of values feature = values (feature_variable feature)

-- an assignment that satisfies the clauses and agrees with the set on the features
pub record IsExtended (features : ℕ) (on : ℕ → Bool) (given : List (List ℤ)) : Type 0 where
  pub values : ℕ → Bool
  pub satisfied : IsTrue (all_hold values given)
  pub agrees : (feature : ℕ) → feature < features → features_of values feature ≡ on feature

-- The clauses are satisfiable exactly where the condition has a model: a model extends to an assignment that satisfies them,
-- and such an assignment is a model on the features.
pub record IsEquisatisfiable (features : ℕ) (condition : Condition) (given : List (List ℤ)) : Type 0 where
  pub extends : (on : ℕ → Bool) → IsTrue (value on condition) → IsExtended features on given
  pub restricts : (values : ℕ → Bool) → IsTrue (all_hold values given) → IsTrue (value (features_of values) condition)

-- Translations of conditions over the features are so.
abbrev pub TranslationLaw : Type 0
TranslationLaw =
    (features : ℕ) (condition : Condition) (vars : ℕ) (given : List (List ℤ)) → VarsBelow features condition → IsTranslation features condition vars given → IsEquisatisfiable features condition given

-- A condition whose translation has a refutation has no model.
abbrev pub NoModelLaw : Type 0
NoModelLaw =
    (features : ℕ) (condition : Condition) (vars : ℕ) (given : List (List ℤ)) (steps : List Step) → VarsBelow features condition → IsTranslation features condition vars given → IsRefutation vars given steps → HasNoModel condition
