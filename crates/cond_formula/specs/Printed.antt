-- The expression that is printed for a condition.
use Rattle.std.specs.Prelude.{ℕ, zero, suc, ◌+◌, List, [], ◌++◌, codes}
use Rattle.cond_formula.specs.declared.print.Operator.{Operator}
use Rattle.cond_formula.specs.declared.print.Operator.TheVariants.{And, Or}
use Rattle.cond_formula.specs.Conditions.{Condition, Conditions, Always, Never, Feature, Inverse, All_of, Any_of, none, more}
use Rattle.cond_formula.specs.Expressions.{Disjunction, Conjunction, Test, conjunction, or, test, and, zero_constant, one_constant, is_defined, inverse, parenthesized, test_text, name_of}

-- what stands between two parts
abbrev pub operator_text : Operator → List ℕ
operator_text And = codes " && "
operator_text Or = codes " || "

-- what stands before the part with this index
abbrev pub separator_text : Operator → ℕ → List ℕ
separator_text operator zero = []
separator_text operator (suc index) = operator_text operator

-- what stands for no part
abbrev pub empty_text : Operator → List ℕ
empty_text And = codes "1"
empty_text Or = codes "0"

module _ (names : List (List ℕ)) where
  abbrev mutual
    pub printed_test : Condition → Test
    printed_test Always = one_constant
    printed_test Never = zero_constant
    printed_test (Feature feature) = is_defined (name_of names feature)
    printed_test (Inverse inner) = inverse (printed_test inner)
    printed_test (All_of parts) = parenthesized (conjunction (printed_all parts))
    printed_test (Any_of parts) = parenthesized (printed_any parts)

    pub printed_all : Conditions → Conjunction
    printed_all none = test one_constant
    printed_all (more first rest) = with_all (test (printed_test first)) rest

    pub with_all : Conjunction → Conditions → Conjunction
    with_all left none = left
    with_all left (more part rest) = with_all (and left (printed_test part)) rest

    pub printed_any : Conditions → Disjunction
    printed_any none = conjunction (test zero_constant)
    printed_any (more first rest) = with_any (conjunction (test (printed_test first))) rest

    pub with_any : Disjunction → Conditions → Disjunction
    with_any left none = left
    with_any left (more part rest) = with_any (or left (test (printed_test part))) rest

  abbrev pub printed : Condition → Disjunction
  printed (All_of parts) = conjunction (printed_all parts)
  printed (Any_of parts) = printed_any parts
  printed other = conjunction (test (printed_test other))

  -- the parts, the first of which has this index, each after its separator
  abbrev pub joined_text : Operator → ℕ → Conditions → List ℕ
  joined_text operator index none = []
  joined_text operator index (more part rest) =
      separator_text operator index ++ test_text (printed_test part) ++ joined_text operator (index + 1) rest

  abbrev pub parts_text : Operator → Conditions → List ℕ
  parts_text operator none = empty_text operator
  parts_text operator (more first rest) = joined_text operator 0 (more first rest)
