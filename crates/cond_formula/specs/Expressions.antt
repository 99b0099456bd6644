-- The controlling expressions of `#if` that are made of `defined`, constants, `!`, `&&` and `||`, by the productions of
-- ISO/IEC 9899:2011 6.5.3, 6.5.13, 6.5.14 and 6.10.1: how each is spelled, and when it is true.
use Rattle.std.specs.Prelude.{◌≡◌, ℕ, Bool, true, false, not, ◌&&◌, ◌||◌, List, [], ◌++◌, codes, Contains, ⊤, slice_index_or}
use Rattle.cond_formula.specs.Conditions.{Condition, value}

mutual
  -- logical-OR-expression
  pub data Disjunction : Type 0 where
    conjunction : Conjunction → Disjunction
    or : Disjunction → Conjunction → Disjunction

  -- logical-AND-expression
  pub data Conjunction : Type 0 where
    test : Test → Conjunction
    and : Conjunction → Test → Conjunction

  -- unary-expression
  pub data Test : Type 0 where
    zero_constant : Test
    one_constant : Test
    is_defined : List ℕ → Test
    inverse : Test → Test
    parenthesized : Disjunction → Test

abbrev mutual
  pub disjunction_text : Disjunction → List ℕ
  disjunction_text (conjunction c) = conjunction_text c
  disjunction_text (or left right) = disjunction_text left ++ codes " || " ++ conjunction_text right

  pub conjunction_text : Conjunction → List ℕ
  conjunction_text (test t) = test_text t
  conjunction_text (and left right) = conjunction_text left ++ codes " && " ++ test_text right

  pub test_text : Test → List ℕ
  test_text zero_constant = codes "0"
  test_text one_constant = codes "1"
  test_text (is_defined name) = codes "defined(" ++ name ++ codes ")"
  test_text (inverse t) = codes "!" ++ test_text t
  test_text (parenthesized d) = codes "(" ++ disjunction_text d ++ codes ")"

-- Whether it is true where `on` says which names are defined.
abbrev mutual
  pub disjunction_holds : (List ℕ → Bool) → Disjunction → Bool
  disjunction_holds on (conjunction c) = conjunction_holds on c
  disjunction_holds on (or left right) = disjunction_holds on left || conjunction_holds on right

  pub conjunction_holds : (List ℕ → Bool) → Conjunction → Bool
  conjunction_holds on (test t) = test_holds on t
  conjunction_holds on (and left right) = conjunction_holds on left && test_holds on right

  pub test_holds : (List ℕ → Bool) → Test → Bool
  test_holds on zero_constant = false
  test_holds on one_constant = true
  test_holds on (is_defined name) = on name
  test_holds on (inverse t) = not (test_holds on t)
  test_holds on (parenthesized d) = disjunction_holds on d

-- Each name in it is one of these.
abbrev mutual
  pub DisjunctionNames : List (List ℕ) → Disjunction → Type 0
  DisjunctionNames names (conjunction c) = ConjunctionNames names c
  DisjunctionNames names (or left right) = DisjunctionNames names left × ConjunctionNames names right

  pub ConjunctionNames : List (List ℕ) → Conjunction → Type 0
  ConjunctionNames names (test t) = TestNames names t
  ConjunctionNames names (and left right) = ConjunctionNames names left × TestNames names right

  pub TestNames : List (List ℕ) → Test → Type 0
  TestNames names zero_constant = ⊤
  TestNames names one_constant = ⊤
  TestNames names (is_defined name) = Contains names name
  TestNames names (inverse t) = TestNames names t
  TestNames names (parenthesized d) = DisjunctionNames names d

-- the name of a feature
abbrev pub name_of : List (List ℕ) → ℕ → List ℕ
name_of names feature = slice_index_or names feature []

-- The text is a controlling expression over these names that is true exactly where the condition is, whichever of the
-- names are defined.
pub record IsSpelling (names : List (List ℕ)) (condition : Condition) (text : List ℕ) : Type 0 where
  pub expression : Disjunction
  pub spelled : text ≡ disjunction_text expression
  pub named : DisjunctionNames names expression
  pub holds : (on : List ℕ → Bool) → disjunction_holds on expression ≡ value (λ feature. on (name_of names feature)) condition
