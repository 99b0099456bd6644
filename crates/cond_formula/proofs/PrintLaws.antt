-- Between the steps of printing and the expression that is printed.
use Rattle.std.proofs.Common.{◌≡◌, ◌≢◌, ℕ, zero, suc, ◌<◌, Bool, IsTrue, true, false, ◌&&◌, ◌||◌, not, List, [], ◌∷◌, ◌++◌, map, length, get_or, string_bytes, codes, All, Contains, eqb, nat_eq, refl, sym, ap, ◌∙◌, arith, String}
use Rattle.std.proofs.Math.Numerals.{add-one}
use Rattle.std.proofs.Math.Bool.{and_assoc, or_assoc, and-true, or-false}
use Rattle.std.proofs.lemmas.List.{append_assoc, get_or-map, append-nil, get_or_default, length-map}
use Rattle.std.proofs.lemmas.List.Elements.{All-nil, All-cons, All-head, All-tail}
use Rattle.std.proofs.lemmas.Bool.{false≢true}
use Rattle.std.proofs.lemmas.List.Folds.{list_all-append}
use Rattle.std.specs.Cmp.Derive.{both_true}
use Rattle.std.proofs.lemmas.Bool.Decides.{nat_tests}
use Rattle.std.specs.List.{list_all, list_any, starts_with}
use Rattle.std.specs.declared.alloc.Global.{Global}
use Rattle.std.specs.Prelude.{Vec, Box}
use Rattle.cond_formula.specs.declared.formulas.Formula.{Formula, Var, Not, And, Or}
use Rattle.cond_formula.specs.declared.print.Operator.{Operator}
use Rattle.cond_formula.specs.declared.print.Operator.TheVariants as operators
use Rattle.cond_formula.specs.Conditions.{Condition, Conditions, Always, Never, Feature, Inverse, All_of, Any_of, none, more, condition_of, conditions_of, VarsBelow, AllVarsBelow, value, all_true, any_true}
use Rattle.cond_formula.specs.ConditionLaws.{condition_of-Var, condition_of-Not, condition_of-And, condition_of-Or}
use Rattle.std.specs.Str.{bytes_eq}
use Rattle.c_names.specs.Names.{is_nondigit, is_word_byte, is_identifier, is_keyword, taken_names, is_new_name}
use Rattle.cond_formula.specs.Expressions.{Disjunction, Conjunction, Test, conjunction, or, test, and, zero_constant, one_constant, is_defined, inverse, parenthesized, disjunction_text, conjunction_text, test_text, disjunction_holds, conjunction_holds, test_holds, DisjunctionNames, ConjunctionNames, TestNames, name_of, IsSpelling}
use Rattle.cond_formula.specs.Printed.{printed, printed_test, printed_all, printed_any, with_all, with_any, parts_text, joined_text}

module _ (count : ℕ) where
  pub below_feature : (f : Formula) (feature : ℕ) → f ≡ Var feature → VarsBelow count (condition_of f) → feature < count
  below_feature f feature is below = rw (is, condition_of-Var feature) at below

  pub below_parts-And : (f : Formula) (parts : Vec Formula Global) (items : List Formula) → f ≡ And parts → items ≡ parts.items → VarsBelow count (condition_of f) → AllVarsBelow count (conditions_of items)
  below_parts-And f parts items is same below =
      rw same (rw (is, condition_of-And parts) at below)

  pub below_parts-Or : (f : Formula) (parts : Vec Formula Global) (items : List Formula) → f ≡ Or parts → items ≡ parts.items → VarsBelow count (condition_of f) → AllVarsBelow count (conditions_of items)
  below_parts-Or f parts items is same below =
      rw same (rw (is, condition_of-Or parts) at below)

  pub below_inner : (f : Formula) (inner : Box Formula Global) (x : Formula) → f ≡ Not inner → x ≡ inner.value → VarsBelow count (condition_of f) → VarsBelow count (condition_of x)
  below_inner f inner x is same below =
      rw same (rw (is, condition_of-Not inner) at below)

  pub below_part : (parts : List Formula) (index : ℕ) (part : Formula) → index < length parts → part ≡ get_or parts index part → AllVarsBelow count (conditions_of parts) → VarsBelow count (condition_of part)
  below_part [] index part within is below = absurd (omega arith)
  below_part (first ∷ rest) zero part within is below = rw is below.0
  below_part (first ∷ rest) (suc index) part within is below = below_part rest index part (omega arith) is below.1

module _ (names : List (List ℕ)) where
  pub parts_text-some : (operator : Operator) (parts : List Formula) → length parts ≢ 0 → parts_text names operator (conditions_of parts) ≡ joined_text names operator 0 (conditions_of parts)
  parts_text-some operator [] some = absurd (some refl)
  parts_text-some operator (first ∷ rest) some = refl

  with_all-text : (left : Conjunction) (parts : Conditions) (index : ℕ) → conjunction_text (with_all names left parts) ≡ conjunction_text left ++ joined_text names operators.And (suc index) parts
  with_all-text left none index = sym (append-nil (conjunction_text left))
  with_all-text left (more part rest) index =
      rw (with_all-text (and left (printed_test names part)) rest (suc index)) (rw (add-one (suc index)) (simp append_assoc))

  with_any-text : (left : Disjunction) (parts : Conditions) (index : ℕ) → disjunction_text (with_any names left parts) ≡ disjunction_text left ++ joined_text names operators.Or (suc index) parts
  with_any-text left none index = sym (append-nil (disjunction_text left))
  with_any-text left (more part rest) index =
      rw (with_any-text (or left (test (printed_test names part))) rest (suc index)) (rw (add-one (suc index)) (simp append_assoc))

  -- the printed conjunction and disjunction, part by part
  pub printed_all-text : (parts : Conditions) → conjunction_text (printed_all names parts) ≡ parts_text names operators.And parts
  printed_all-text none = refl
  printed_all-text (more first rest) = with_all-text (test (printed_test names first)) rest 0

  pub printed_any-text : (parts : Conditions) → disjunction_text (printed_any names parts) ≡ parts_text names operators.Or parts
  printed_any-text none = refl
  printed_any-text (more first rest) = with_any-text (conjunction (test (printed_test names first))) rest 0

-- The printed test of a formula, by its kind.
module _ (names : List (List ℕ)) where
  pub test_text-Not : (f : Formula) (inner : Box Formula Global) (x : Formula) → f ≡ Not inner → x ≡ inner.value → test_text (printed_test names (condition_of f)) ≡ 33 ∷ test_text (printed_test names (condition_of x))
  test_text-Not f inner x is same = rw (is, condition_of-Not inner, same)

  pub test_text-And : (f : Formula) (parts : Vec Formula Global) (items : List Formula) → f ≡ And parts → items ≡ parts.items → test_text (printed_test names (condition_of f)) ≡ codes "(" ++ parts_text names operators.And (conditions_of items) ++ codes ")"
  test_text-And f parts items is same = rw (is, condition_of-And parts, same, printed_all-text names (conditions_of parts.items))

  pub test_text-Or : (f : Formula) (parts : Vec Formula Global) (items : List Formula) → f ≡ Or parts → items ≡ parts.items → test_text (printed_test names (condition_of f)) ≡ codes "(" ++ parts_text names operators.Or (conditions_of items) ++ codes ")"
  test_text-Or f parts items is same = rw (is, condition_of-Or parts, same, printed_any-text names (conditions_of parts.items))

  pub printed-And : (f : Formula) (parts : Vec Formula Global) (items : List Formula) → f ≡ And parts → items ≡ parts.items → disjunction_text (printed names (condition_of f)) ≡ parts_text names operators.And (conditions_of items)
  printed-And f parts items is same = rw (is, condition_of-And parts, same) (printed_all-text names (conditions_of parts.items))

  pub printed-Or : (f : Formula) (parts : Vec Formula Global) (items : List Formula) → f ≡ Or parts → items ≡ parts.items → disjunction_text (printed names (condition_of f)) ≡ parts_text names operators.Or (conditions_of items)
  printed-Or f parts items is same = rw (is, condition_of-Or parts, same) (printed_any-text names (conditions_of parts.items))

pub test_text-Var : (strings : List (String Global)) (f : Formula) (feature : ℕ) (name : String Global) → f ≡ Var feature → feature < length strings → name ≡ get_or strings feature name → test_text (printed_test (map string_bytes strings) (condition_of f)) ≡ test_text (is_defined (string_bytes name))
test_text-Var strings f feature name is within at =
    rw (is, condition_of-Var feature, get_or-map string_bytes strings feature name [] within, ← at)

-- When the printed expression is true.
module _ (names : List (List ℕ)) (on : List ℕ → Bool) where
  abbrev named : ℕ → Bool
  named feature = on (name_of names feature)

  mutual
    pub printed_test-holds : (condition : Condition) → test_holds on (printed_test names condition) ≡ value named condition
    printed_test-holds Always = refl
    printed_test-holds Never = refl
    printed_test-holds (Feature feature) = refl
    printed_test-holds (Inverse inner) = ap not (printed_test-holds inner)
    printed_test-holds (All_of parts) = printed_all-holds parts
    printed_test-holds (Any_of parts) = printed_any-holds parts

    pub printed_all-holds : (parts : Conditions) → conjunction_holds on (printed_all names parts) ≡ all_true named parts
    printed_all-holds none = refl
    printed_all-holds (more first rest) =
        with_all-holds (test (printed_test names first)) rest ∙ ap (λ (b : Bool). b && all_true named rest) (printed_test-holds first)

    with_all-holds : (left : Conjunction) (parts : Conditions) → conjunction_holds on (with_all names left parts) ≡ (conjunction_holds on left && all_true named parts)
    with_all-holds left none = sym (and-true (conjunction_holds on left))
    with_all-holds left (more part rest) =
        rw (with_all-holds (and left (printed_test names part)) rest, printed_test-holds part) (and_assoc (conjunction_holds on left) (value named part) (all_true named rest))

    pub printed_any-holds : (parts : Conditions) → disjunction_holds on (printed_any names parts) ≡ any_true named parts
    printed_any-holds none = refl
    printed_any-holds (more first rest) =
        with_any-holds (conjunction (test (printed_test names first))) rest ∙ ap (λ (b : Bool). b || any_true named rest) (printed_test-holds first)

    with_any-holds : (left : Disjunction) (parts : Conditions) → disjunction_holds on (with_any names left parts) ≡ (disjunction_holds on left || any_true named parts)
    with_any-holds left none = sym (or-false (disjunction_holds on left))
    with_any-holds left (more part rest) =
        rw (with_any-holds (or left (test (printed_test names part))) rest, printed_test-holds part) (or_assoc (disjunction_holds on left) (value named part) (any_true named rest))

  pub printed-holds : (condition : Condition) → disjunction_holds on (printed names condition) ≡ value named condition
  printed-holds Always = refl
  printed-holds Never = refl
  printed-holds (Feature feature) = refl
  printed-holds (Inverse inner) = ap not (printed_test-holds inner)
  printed-holds (All_of parts) = printed_all-holds parts
  printed-holds (Any_of parts) = printed_any-holds parts

-- Which names the printed expression has.
module _ (names : List (List ℕ)) where
  is_name : (feature : ℕ) → feature < length names → Contains names (name_of names feature)
  is_name feature within = (feature, within, get_or_default names feature (name_of names feature) [] within)

  mutual
    pub printed_test-named : (condition : Condition) → VarsBelow (length names) condition → TestNames names (printed_test names condition)
    printed_test-named Always below = tt
    printed_test-named Never below = tt
    printed_test-named (Feature feature) below = is_name feature below
    printed_test-named (Inverse inner) below = printed_test-named inner below
    printed_test-named (All_of parts) below = printed_all-named parts below
    printed_test-named (Any_of parts) below = printed_any-named parts below

    pub printed_all-named : (parts : Conditions) → AllVarsBelow (length names) parts → ConjunctionNames names (printed_all names parts)
    printed_all-named none below = tt
    printed_all-named (more first rest) below =
        with_all-named (test (printed_test names first)) rest (printed_test-named first below.0) below.1

    with_all-named : (left : Conjunction) (parts : Conditions) → ConjunctionNames names left → AllVarsBelow (length names) parts → ConjunctionNames names (with_all names left parts)
    with_all-named left none has below = has
    with_all-named left (more part rest) has below =
        with_all-named (and left (printed_test names part)) rest (has, printed_test-named part below.0) below.1

    pub printed_any-named : (parts : Conditions) → AllVarsBelow (length names) parts → DisjunctionNames names (printed_any names parts)
    printed_any-named none below = tt
    printed_any-named (more first rest) below =
        with_any-named (conjunction (test (printed_test names first))) rest (printed_test-named first below.0) below.1

    with_any-named : (left : Disjunction) (parts : Conditions) → DisjunctionNames names left → AllVarsBelow (length names) parts → DisjunctionNames names (with_any names left parts)
    with_any-named left none has below = has
    with_any-named left (more part rest) has below =
        with_any-named (or left (test (printed_test names part))) rest (has, printed_test-named part below.0) below.1

  pub printed-named : (condition : Condition) → VarsBelow (length names) condition → DisjunctionNames names (printed names condition)
  printed-named Always below = tt
  printed-named Never below = tt
  printed-named (Feature feature) below = is_name feature below
  printed-named (Inverse inner) below = printed_test-named inner below
  printed-named (All_of parts) below = printed_all-named parts below
  printed-named (Any_of parts) below = printed_any-named parts below

-- An expression over lawful names is one line.
abbrev one_line : List ℕ → Bool
one_line text = list_all (λ byte. not (eqb byte 10)) text

joined_line : (xs ys : List ℕ) → one_line xs ≡ true → one_line ys ≡ true → one_line (xs ++ ys) ≡ true
joined_line xs ys x y = rw (list_all-append (λ byte. not (eqb byte 10)) xs ys, x, y)

between_line : (xs between ys : List ℕ) → one_line xs ≡ true → one_line between ≡ true → one_line ys ≡ true → one_line (xs ++ between ++ ys) ≡ true
between_line xs between ys x b y = joined_line (xs ++ between) ys (joined_line xs between x b) y

pub left_true : (a b : Bool) → (a && b) ≡ true → a ≡ true
left_true true b is = refl
left_true false b is = is

pub right_true : (a b : Bool) → (a && b) ≡ true → b ≡ true
right_true true b is = is
right_true false b is = absurd (false≢true is)

part_line : (byte : ℕ) → is_word_byte byte ≡ true → not (eqb byte 10) ≡ true
part_line byte is = grind (arith, nat_tests)

parts_line : (name : List ℕ) → list_all is_word_byte name ≡ true → one_line name ≡ true
parts_line [] is = refl
parts_line (byte ∷ rest) is =
    both_true (part_line byte (left_true (is_word_byte byte) (list_all is_word_byte rest) is)) (parts_line rest (right_true (is_word_byte byte) (list_all is_word_byte rest) is))

identifier_parts : (name : List ℕ) → is_identifier name ≡ true → list_all is_word_byte name ≡ true
identifier_parts [] is = refl
identifier_parts (first ∷ rest) is =
    let start = left_true (is_nondigit first) (list_all is_word_byte rest) is in
    let part : is_word_byte first ≡ true = rw start refl in
    both_true part (right_true (is_nondigit first) (list_all is_word_byte rest) is)

pub new_name_bytes : (name : List ℕ) → is_new_name name ≡ true → list_all is_word_byte name ≡ true
new_name_bytes name is =
    identifier_parts name (left_true _ _ (left_true _ _ (left_true (is_identifier name && not (is_keyword name) && not (list_any (bytes_eq name) taken_names)) (not (starts_with nat_eq name (codes "__"))) is)))

pub new_name_line : (name : List ℕ) → is_new_name name ≡ true → one_line name ≡ true
new_name_line name is = parts_line name (new_name_bytes name is)

module _ (names : List (List ℕ)) (lawful : (name : List ℕ) → Contains names name → one_line name ≡ true) where
  mutual
    pub disjunction_line : (d : Disjunction) → DisjunctionNames names d → one_line (disjunction_text d) ≡ true
    disjunction_line (conjunction c) has = conjunction_line c has
    disjunction_line (or left right) has =
        between_line (disjunction_text left) (codes " || ") (conjunction_text right) (disjunction_line left has.0) refl (conjunction_line right has.1)

    conjunction_line : (c : Conjunction) → ConjunctionNames names c → one_line (conjunction_text c) ≡ true
    conjunction_line (test t) has = test_line t has
    conjunction_line (and left right) has =
        between_line (conjunction_text left) (codes " && ") (test_text right) (conjunction_line left has.0) refl (test_line right has.1)

    test_line : (t : Test) → TestNames names t → one_line (test_text t) ≡ true
    test_line zero_constant has = refl
    test_line one_constant has = refl
    test_line (is_defined name) has = between_line (codes "defined(") name (codes ")") refl (lawful name has) refl
    test_line (inverse t) has = test_line t has
    test_line (parenthesized d) has = between_line (codes "(") (disjunction_text d) (codes ")") refl (disjunction_line d has) refl

pub All-from_line : (text : List ℕ) → one_line text ≡ true → All (λ byte. byte ≢ 10) text
All-from_line [] is = All-nil (λ byte. byte ≢ 10)
All-from_line (byte ∷ rest) is =
    let other : byte ≢ 10 = λ same. false≢true (rw same at (left_true (not (eqb byte 10)) (one_line rest) is)) in
    All-cons (λ b. b ≢ 10) byte rest other (All-from_line rest (right_true (not (eqb byte 10)) (one_line rest) is))

pub lawful_line : (strings : List (String Global)) → All (λ (string : String Global). IsTrue (is_new_name (string_bytes string))) strings → (name : List ℕ) → Contains (map string_bytes strings) name → one_line name ≡ true
lawful_line [] lawful name (k, within, at) = absurd (omega arith)
lawful_line (string ∷ rest) lawful name (zero, within, at) =
    rw (← at) (new_name_line (string_bytes string) (All-head (λ (string : String Global). IsTrue (is_new_name (string_bytes string))) string rest lawful))
lawful_line (string ∷ rest) lawful name (suc k, within, at) =
    lawful_line rest (All-tail (λ (string : String Global). IsTrue (is_new_name (string_bytes string))) string rest lawful) name (k, omega arith, at)

-- the printed expression of a condition over lawful names
module _ (strings : List (String Global)) (condition : Condition) (numbered : VarsBelow (length strings) condition) where
  abbrev names : List (List ℕ)
  names = map string_bytes strings

  has_names : DisjunctionNames names (printed names condition)
  has_names = printed-named names condition (rw (length-map strings string_bytes) numbered)

  pub printed_spelling : (text : List ℕ) → text ≡ disjunction_text (printed names condition) → IsSpelling names condition text
  printed_spelling text is = record {
    expression = printed names condition;
    spelled = is;
    named = has_names;
    holds = λ on. printed-holds names on condition;
  }

  pub printed_line : All (λ (string : String Global). IsTrue (is_new_name (string_bytes string))) strings → (text : List ℕ) → text ≡ disjunction_text (printed names condition) → All (λ byte. byte ≢ 10) text
  printed_line lawful text is =
      All-from_line text (rw is (disjunction_line names (lawful_line strings lawful) (printed names condition) has_names))
