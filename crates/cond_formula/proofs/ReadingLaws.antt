-- A text is read in one way: a machine that takes it byte by byte comes to the value of each expression that it spells.
use Rattle.std.proofs.Common.{◌≡◌, ℕ, Bool, IsTrue, true, false, not, ◌&&◌, ◌||◌, cond, eqb, List, [], ◌∷◌, ◌++◌, codes, Contains, All, refl, sym, ap, ◌∙◌, arith}
use Rattle.std.proofs.Math.Bool.{and_assoc, or_assoc, not-not}
use Rattle.std.proofs.lemmas.List.{append_assoc, append-nil}
use Rattle.std.specs.List.{list_all}
use Rattle.std.proofs.lemmas.Bool.{not-true}
use Rattle.std.proofs.lemmas.Bool.Decides.{nat_tests}
use Rattle.std.specs.Cmp.Derive.{both_true}
use Rattle.c_names.specs.Names.{is_word_byte, is_new_name}
use Rattle.cond_formula.specs.Readings.{OneReading}
use Rattle.cond_formula.proofs.PrintLaws.{left_true, right_true, new_name_bytes}
use Rattle.cond_formula.specs.Expressions.{Disjunction, Conjunction, Test, conjunction, or, test, and, zero_constant, one_constant, is_defined, inverse, parenthesized, disjunction_text, conjunction_text, test_text, disjunction_holds, conjunction_holds, test_holds, DisjunctionNames, ConjunctionNames, TestNames}

-- inside one pair of parentheses: whether a conjunction before holds, whether the tests so far do, and whether the next one
-- is negated
record Level : Type 0 where
  earlier : Bool
  tests : Bool
  negated : Bool

abbrev level : Bool → Bool → Bool → Level
level earlier tests negated = record { earlier = earlier; tests = tests; negated = negated }

data Mode : Type 0 where
  wants_test : Mode
  in_word : Mode
  in_name : List ℕ → Mode
  has_test : Mode
  wants_operator : Mode
  after_operator : Mode

record State : Type 0 where
  mode : Mode
  inner : Level
  outer : List Level

abbrev state : Mode → Level → List Level → State
state mode inner outer = record { mode = mode; inner = inner; outer = outer }

abbrev negate_if : Bool → Bool → Bool
negate_if negated value = cond negated (not value) value

abbrev with_test : Level → Bool → Level
with_test l value = level l.earlier (l.tests && negate_if l.negated value) false

module _ (on : List ℕ → Bool) where
  abbrev closed : Level → List Level → State
  closed inner [] = state has_test inner []
  closed inner (around ∷ outer) = state has_test (with_test around (inner.earlier || inner.tests)) outer

  abbrev step : Mode → Level → List Level → ℕ → State
  step wants_test inner outer byte =
      cond (eqb byte 33) (state wants_test (level inner.earlier inner.tests (not inner.negated)) outer)
      (cond (eqb byte 40) (state wants_test (level false true false) (inner ∷ outer))
      (cond (eqb byte 48) (state has_test (with_test inner false) outer)
      (cond (eqb byte 49) (state has_test (with_test inner true) outer) (state in_word inner outer))))
  step in_word inner outer byte = cond (eqb byte 40) (state (in_name []) inner outer) (state in_word inner outer)
  step (in_name name) inner outer byte =
      cond (eqb byte 41) (state has_test (with_test inner (on name)) outer) (state (in_name (name ++ byte ∷ [])) inner outer)
  step has_test inner outer byte = cond (eqb byte 41) (closed inner outer) (state wants_operator inner outer)
  step wants_operator inner outer byte =
      cond (eqb byte 124) (state after_operator (level (inner.earlier || inner.tests) true false) outer) (state after_operator inner outer)
  step after_operator inner outer byte = cond (eqb byte 32) (state wants_test inner outer) (state after_operator inner outer)

  abbrev read : State → List ℕ → State
  read s [] = s
  read s (byte ∷ rest) = read (step s.mode s.inner s.outer byte) rest

  abbrev plain_name : List ℕ → Bool
  plain_name name = list_all (λ byte. not (eqb byte 41)) name

  read_name : (so_far name rest : List ℕ) (inner : Level) (outer : List Level) → plain_name name ≡ true → read (state (in_name so_far) inner outer) (name ++ 41 ∷ rest) ≡ read (state has_test (with_test inner (on (so_far ++ name))) outer) rest
  read_name so_far [] rest inner outer plain =
      ap (λ (name : List ℕ). read (state has_test (with_test inner (on name)) outer) rest) (sym (append-nil so_far))
  read_name so_far (byte ∷ name) rest inner outer plain =
      let apart : eqb byte 41 ≡ false = not-true (eqb byte 41) (left_true (not (eqb byte 41)) (plain_name name) plain) in
      let others = right_true (not (eqb byte 41)) (plain_name name) plain in
      ap (λ (b : Bool). read (cond b (state has_test (with_test inner (on so_far)) outer) (state (in_name (so_far ++ byte ∷ [])) inner outer)) (name ++ 41 ∷ rest)) apart
      ∙ read_name (so_far ++ byte ∷ []) name rest inner outer others
      ∙ ap (λ (n : List ℕ). read (state has_test (with_test inner (on n)) outer) rest) (append_assoc so_far (byte ∷ []) name)

  -- where a conjunction or a disjunction leaves a level
  abbrev after_disjunction : Bool → Disjunction → Level
  after_disjunction earlier (conjunction c) = level earlier (conjunction_holds on c) false
  after_disjunction earlier (or left right) =
      let l = after_disjunction earlier left in level (l.earlier || l.tests) (conjunction_holds on right) false

  level_value : (d : Disjunction) (earlier : Bool) → ((after_disjunction earlier d).earlier || (after_disjunction earlier d).tests) ≡ (earlier || disjunction_holds on d)
  level_value (conjunction c) earlier = refl
  level_value (or left right) earlier =
      ap (λ (b : Bool). b || conjunction_holds on right) (level_value left earlier) ∙ or_assoc earlier (disjunction_holds on left) (conjunction_holds on right)

  flipped : (negated value : Bool) → negate_if (not negated) value ≡ negate_if negated (not value)
  flipped true value = sym (not-not value)
  flipped false value = refl

  module _ (names : List (List ℕ)) (plain : (name : List ℕ) → Contains names name → plain_name name ≡ true) where
    mutual
      read_test : (t : Test) (inner : Level) (outer : List Level) (rest : List ℕ) → TestNames names t → read (state wants_test inner outer) (test_text t ++ rest) ≡ read (state has_test (with_test inner (test_holds on t)) outer) rest
      read_test zero_constant inner outer rest has = refl
      read_test one_constant inner outer rest has = refl
      read_test (is_defined name) inner outer rest has =
          ap (read (state (in_name []) inner outer)) (append_assoc name (41 ∷ []) rest) ∙ read_name [] name rest inner outer (plain name has)
      read_test (inverse t) inner outer rest has =
          read_test t (level inner.earlier inner.tests (not inner.negated)) outer rest has
          ∙ ap (λ (b : Bool). read (state has_test (level inner.earlier (inner.tests && b) false) outer) rest) (flipped inner.negated (test_holds on t))
      read_test (parenthesized d) inner outer rest has =
          ap (read (state wants_test (level false true false) (inner ∷ outer))) (append_assoc (disjunction_text d) (41 ∷ []) rest)
          ∙ read_disjunction d false (inner ∷ outer) (41 ∷ rest) has
          ∙ ap (λ (b : Bool). read (state has_test (with_test inner b) outer) rest) (level_value d false)

      read_conjunction : (c : Conjunction) (earlier tests : Bool) (outer : List Level) (rest : List ℕ) → ConjunctionNames names c → read (state wants_test (level earlier tests false) outer) (conjunction_text c ++ rest) ≡ read (state has_test (level earlier (tests && conjunction_holds on c) false) outer) rest
      read_conjunction (test t) earlier tests outer rest has = read_test t (level earlier tests false) outer rest has
      read_conjunction (and left right) earlier tests outer rest has =
          let grouped : conjunction_text left ++ codes " && " ++ test_text right ++ rest ≡ conjunction_text left ++ (codes " && " ++ (test_text right ++ rest)) = simp append_assoc in
          ap (read (state wants_test (level earlier tests false) outer)) grouped
          ∙ read_conjunction left earlier tests outer (codes " && " ++ (test_text right ++ rest)) has.0
          ∙ read_test right (level earlier (tests && conjunction_holds on left) false) outer rest has.1
          ∙ ap (λ (b : Bool). read (state has_test (level earlier b false) outer) rest) (and_assoc tests (conjunction_holds on left) (test_holds on right))

      read_disjunction : (d : Disjunction) (earlier : Bool) (outer : List Level) (rest : List ℕ) → DisjunctionNames names d → read (state wants_test (level earlier true false) outer) (disjunction_text d ++ rest) ≡ read (state has_test (after_disjunction earlier d) outer) rest
      read_disjunction (conjunction c) earlier outer rest has = read_conjunction c earlier true outer rest has
      read_disjunction (or left right) earlier outer rest has =
          let before = after_disjunction earlier left in
          let grouped : disjunction_text left ++ codes " || " ++ conjunction_text right ++ rest ≡ disjunction_text left ++ (codes " || " ++ (conjunction_text right ++ rest)) = simp append_assoc in
          ap (read (state wants_test (level earlier true false) outer)) grouped
          ∙ read_disjunction left earlier outer (codes " || " ++ (conjunction_text right ++ rest)) has.0
          ∙ read_conjunction right (before.earlier || before.tests) true outer rest has.1

    abbrev answer : List ℕ → Bool
    answer text = let end = read (state wants_test (level false true false) []) text in end.inner.earlier || end.inner.tests

    answer_is : (d : Disjunction) → DisjunctionNames names d → answer (disjunction_text d) ≡ disjunction_holds on d
    answer_is d has =
        ap answer (sym (append-nil (disjunction_text d)))
        ∙ ap (λ (end : State). end.inner.earlier || end.inner.tests) (read_disjunction d false [] [] has)
        ∙ level_value d false

part_plain : (byte : ℕ) → is_word_byte byte ≡ true → not (eqb byte 41) ≡ true
part_plain byte is = grind (arith, nat_tests)

parts_plain : (name : List ℕ) → list_all is_word_byte name ≡ true → plain_name (λ _. true) name ≡ true
parts_plain [] is = refl
parts_plain (byte ∷ rest) is =
    both_true (part_plain byte (left_true (is_word_byte byte) (list_all is_word_byte rest) is)) (parts_plain rest (right_true (is_word_byte byte) (list_all is_word_byte rest) is))

lawful_plain : (names : List (List ℕ)) → All (λ (name : List ℕ). IsTrue (is_new_name name)) names → (name : List ℕ) → Contains names name → list_all (λ byte. not (eqb byte 41)) name ≡ true
lawful_plain names lawful name (k, within, at) = parts_plain name (new_name_bytes name (rw at at (lawful k name within)))

pub one_reading : OneReading
one_reading names lawful d e in_d in_e same on =
    sym (answer_is on names (lawful_plain names lawful) d in_d) ∙ ap (answer on names (lawful_plain names lawful)) same ∙ answer_is on names (lawful_plain names lawful) e in_e
