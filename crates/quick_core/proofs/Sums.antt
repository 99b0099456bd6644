-- A sum in both meanings.
use Rattle.std.proofs.Common.{◌≡◌, ℕ, ℤ, pos, Bool, true, false, List, [], ◌∷◌, refl, ◌∙◌, ap, cond, Option, Some, None, option_map, option_and_then, IsTrue}
use Rattle.c_types.specs.declared.arithmetic.BinaryOp.TheVariants.{Add, Sub}
use Rattle.core_meaning.specs.declared.integers.IntegerType.TheVariants.{Int}
use Rattle.core_meaning.specs.declared.expressions.Operation.TheVariants.{Numbers}
use Rattle.core_meaning.specs.Program.{PlainExpression, binary, PlainProgram}
use Rattle.core_meaning.specs.Values.{number, Value, scalar}
use Rattle.core_meaning.specs.Outcomes.{State, Outcome, Comes, Fails, Piece, after, followed_by, give, given}
use Rattle.core_meaning.specs.Meaning.{Ending, Frame, Job, value_of}
use Rattle.quick_form.specs.Words as words
use Rattle.quick_form.specs.Form.{Operand, Named, Literal, Term, Sum}
use Rattle.quick_form.specs.Run as quick
use Rattle.quick_form.specs.Run.{is_int, int_or_none, operand_value, terms_value, sum_value}
use Rattle.quick_core.specs.CoreProgram.{number_in, core_operand, core_terms, core_sum}
use Rattle.quick_core.proofs.Values.{joined, computed_is}
use Rattle.quick_core.proofs.Cells.{is_in, Alike, read_is}

-- names that are declared, and numbers that an `int` holds
abbrev pub IsKnown : List (List ℕ) → Operand → Type 0
IsKnown names (Named x) = IsTrue (is_in names x)
IsKnown names (Literal d) = IsTrue (is_int (pos (words.value_of d)))

abbrev pub AreKnown : List (List ℕ) → List Term → Type 0
AreKnown names [] = Unit {0}
AreKnown names (t ∷ ts) = IsKnown names t.operand × AreKnown names ts

pub record IsKnownSum (names : List (List ℕ)) (s : Sum) : Type 0 where
  pub first : IsKnown names s.first
  pub more : AreKnown names s.more

-- a number, if there is one, as what an expression comes to
abbrev pub comes_to : Option ℤ → State → Outcome Value
comes_to (Some z) s = Comes (scalar (number z)) s []
comes_to None s = Fails []

-- the number is an `int`, if there is one
abbrev pub IsInt : Option ℤ → Type 0
IsInt (Some z) = IsTrue (is_int z)
IsInt None = Unit {0}

int_or_none_is : (b : Bool) (z : ℤ) → is_int z ≡ b → IsInt (cond b (Some z) None)
int_or_none_is true z h = h
int_or_none_is false z h = tt

given_number : (o : Option ℤ) (s : State) → after [] (after [] (followed_by (given (option_map (λ z. number z) o) s) (λ v now. give (scalar v) now))) ≡ comes_to o s
given_number (Some z) s = refl
given_number None s = refl

and_then_int : (o : Option ℤ) (g : ℤ → Option ℤ) → IsInt o → ((w : ℤ) → IsTrue (is_int w) → IsInt (g w)) → IsInt (option_and_then g o)
and_then_int (Some z) g h k = k z h
and_then_int None g h k = tt

terms_int : (m : quick.Memory) (ts : List Term) (v : ℤ) → IsTrue (is_int v) → IsInt (terms_value m v ts)
terms_int m [] v h = h
terms_int m (t ∷ ts) v h =
    and_then_int (int_or_none (joined t.subtracted v (operand_value m t.operand))) (λ w. terms_value m w ts)
    (int_or_none_is (is_int (joined t.subtracted v (operand_value m t.operand))) (joined t.subtracted v (operand_value m t.operand)) refl)
    (λ w k. terms_int m ts w k)

module _ (p : PlainProgram) (later : Job → Piece Ending) (frame : Frame) (names : List (List ℕ)) (m : quick.Memory) (s : State) (alike : Alike names m s.memory) where
  operand_is : (o : Operand) → IsKnown names o → value_of p later frame (core_operand names o) s ≡ Comes (scalar (number (operand_value m o))) s []
  operand_is (Named x) h =
      ap (λ v. after [] (after [] (given v s))) (read_is p.structs s.memory (number_in names x) (m x) (alike.holds x h))
  operand_is (Literal d) h = refl

  operand_is_int : (o : Operand) → IsKnown names o → IsTrue (is_int (operand_value m o))
  operand_is_int (Named x) h = (alike.holds x h).in_range
  operand_is_int (Literal d) h = h

  binary_is : (b : Bool) (left right : PlainExpression) (x y : ℤ) → value_of p later frame left s ≡ Comes (scalar (number x)) s [] → value_of p later frame right s ≡ Comes (scalar (number y)) s []
      → IsTrue (is_int x) → IsTrue (is_int y) → value_of p later frame (binary (Numbers (cond b Sub Add) Int) left right) s ≡ comes_to (int_or_none (joined b x y)) s
  binary_is b left right x y e f h k =
      rw (e, f)
      (ap (λ o. after [] (after [] (followed_by (given (option_map (λ z. number z) o) s) (λ v now. give (scalar v) now)))) (computed_is b x y h k)
      ∙ given_number (int_or_none (joined b x y)) s)

  binary_fails : (b : Bool) (left right : PlainExpression) → value_of p later frame left s ≡ Fails [] → value_of p later frame (binary (Numbers (cond b Sub Add) Int) left right) s ≡ Fails []
  binary_fails b left right e = rw e refl

  terms_fail : (ts : List Term) (left : PlainExpression) → value_of p later frame left s ≡ Fails [] → value_of p later frame (core_terms names left ts) s ≡ Fails []
  terms_fail [] left e = e
  terms_fail (t ∷ ts) left e = terms_fail ts _ (binary_fails t.subtracted left (core_operand names t.operand) e)

  -- the same of what follows a number, if there is one
  terms_from : (ts : List Term) (left : PlainExpression) (o : Option ℤ) → value_of p later frame left s ≡ comes_to o s → IsInt o
      → ((v : ℤ) → value_of p later frame left s ≡ Comes (scalar (number v)) s [] → IsTrue (is_int v) → value_of p later frame (core_terms names left ts) s ≡ comes_to (terms_value m v ts) s)
      → value_of p later frame (core_terms names left ts) s ≡ comes_to (option_and_then (λ w. terms_value m w ts) o) s
  terms_from ts left (Some v) e k next = next v e k
  terms_from ts left None e k next = terms_fail ts left e

  terms_are : (ts : List Term) (left : PlainExpression) (v : ℤ) → AreKnown names ts → value_of p later frame left s ≡ Comes (scalar (number v)) s [] → IsTrue (is_int v)
      → value_of p later frame (core_terms names left ts) s ≡ comes_to (terms_value m v ts) s
  terms_are [] left v h e k = e
  terms_are (t ∷ ts) left v h e k =
      terms_from ts (binary (Numbers (cond t.subtracted Sub Add) Int) left (core_operand names t.operand)) (int_or_none (joined t.subtracted v (operand_value m t.operand)))
      (binary_is t.subtracted left (core_operand names t.operand) v (operand_value m t.operand) e (operand_is t.operand h.0) k (operand_is_int t.operand h.0))
      (int_or_none_is (is_int (joined t.subtracted v (operand_value m t.operand))) (joined t.subtracted v (operand_value m t.operand)) refl)
      (λ w e' k'. terms_are ts (binary (Numbers (cond t.subtracted Sub Add) Int) left (core_operand names t.operand)) w h.1 e' k')

  pub sum_is : (sum : Sum) → IsKnownSum names sum → value_of p later frame (core_sum names sum) s ≡ comes_to (sum_value m sum) s
  sum_is sum h = terms_are sum.more _ (operand_value m sum.first) h.more (operand_is sum.first h.first) (operand_is_int sum.first h.first)

  pub sum_is_int : (sum : Sum) → IsKnownSum names sum → IsInt (sum_value m sum)
  sum_is_int sum h = terms_int m sum.more (operand_value m sum.first) (operand_is_int sum.first h.first)
