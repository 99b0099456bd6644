-- The run of a program up to a bound (ISO/IEC 9899:2011, 5.1.2.3, 6.5, 6.8): each turn of a loop costs one.
use Rattle.std.specs.Prelude.{ℕ, zero, suc, ◌-◌, ◌%◌, ℤ, pos, negsuc, ◌+ℤ◌, ◌-ℤ◌, Bool, false, ◌&&◌, ◌==◌, List, [], ◌∷◌, ◌++◌, Option, Some, None, if◌then◌else◌, option_and_then}
use Rattle.std.specs.Str.{bytes_eq}
use Rattle.std.specs.Int.Signed.{le_z}
use Rattle.quick_form.specs.Words.{value_of}
use Rattle.quick_form.specs.Form.{Operand, Named, Literal, Term, Sum}
use Rattle.quick_form.specs.Program.{Code, done, assign, put, give, while_, Declaration, object, function, bodies}

-- what each object holds, by its name
abbrev pub Memory : Type 0
Memory = List ℕ → ℤ

abbrev pub with_value : Memory → List ℕ → ℤ → Memory
with_value m x v y = if bytes_eq y x then v else m y

-- an `int` has 32 bits; a sum out of its range is undefined (6.5p5)
abbrev pub is_int : ℤ → Bool
is_int z = le_z (negsuc 2147483647) z && le_z z (pos 2147483647)

abbrev pub int_or_none : ℤ → Option ℤ
int_or_none z = if is_int z then Some z else None

abbrev pub operand_value : Memory → Operand → ℤ
operand_value m (Named x) = m x
operand_value m (Literal d) = pos (value_of d)

-- a sum is grouped from the left
abbrev pub terms_value : Memory → ℤ → List Term → Option ℤ
terms_value m v [] = Some v
terms_value m v (t ∷ ts) =
    option_and_then (λ w. terms_value m w ts)
    (int_or_none (if t.subtracted then v -ℤ operand_value m t.operand else v +ℤ operand_value m t.operand))

abbrev pub sum_value : Memory → Sum → Option ℤ
sum_value m s = terms_value m (operand_value m s.first) s.more

-- how statements end, with what they put out: they fall through, return a value, meet the bound, or are undefined
pub data Outcome : Type 0 where
  Falls : Memory → List ℕ → Outcome
  Returns : ℤ → List ℕ → Outcome
  Stops : List ℕ → Outcome
  Fails : List ℕ → Outcome

-- an outcome behind what was put out before
abbrev pub outcome_behind : List ℕ → Outcome → Outcome
outcome_behind before (Falls m out) = Falls m (before ++ out)
outcome_behind before (Returns v out) = Returns v (before ++ out)
outcome_behind before (Stops out) = Stops (before ++ out)
outcome_behind before (Fails out) = Fails (before ++ out)

-- what follows statements that fall through
abbrev pub followed_by : Outcome → (Memory → Outcome) → Outcome
followed_by (Falls m out) next = outcome_behind out (next m)
followed_by (Returns v out) next = Returns v out
followed_by (Stops out) next = Stops out
followed_by (Fails out) next = Fails out

abbrev pub given : Option ℤ → (ℤ → Outcome) → Outcome
given None next = Fails []
given (Some v) next = next v

abbrev pub is_zero : ℤ → Bool
is_zero (pos n) = n == 0
is_zero (negsuc n) = false

-- a value as an `unsigned char`, as `putchar` writes it (7.21.7.8)
abbrev pub byte_of : ℤ → ℕ
byte_of (pos n) = n % 256
byte_of (negsuc n) = 255 - n % 256

-- A loop whose body runs as told. A turn, and all that follows in the loop, has one less; at 0 no turn starts.
abbrev pub turns : (ℕ → Memory → Outcome) → Sum → ℕ → Memory → Outcome
turns body s zero m = given (sum_value m s) (λ v. if is_zero v then Falls m [] else Stops [])
turns body s (suc n) m =
    given (sum_value m s) (λ v. if is_zero v then Falls m [] else followed_by (body n m) (turns body s n))

abbrev pub code_run : Code → ℕ → Memory → Outcome
code_run done n m = Falls m []
code_run (assign x s rest) n m = given (sum_value m s) (λ v. code_run rest n (with_value m x v))
code_run (put s rest) n m = given (sum_value m s) (λ v. outcome_behind (byte_of v ∷ []) (code_run rest n m))
code_run (give s rest) n m = given (sum_value m s) (λ v. Returns v [])
code_run (while_ s body rest) n m = followed_by (turns (code_run body) s n m) (code_run rest n)

-- before `main` begins: 0, or the first value
abbrev pub first_memory : List Declaration → Memory
first_memory [] = λ _. pos 0
first_memory (object x v ∷ p) = with_value (first_memory p) x (pos v)
first_memory (function c ∷ p) = first_memory p

-- the answer of a run, with all its output
pub data Answer : Type 0 where
  Ended : (output : List ℕ) → (status : ℤ) → Answer
  Running : (output : List ℕ) → Answer
  Undefined : (output : List ℕ) → Answer

-- `main` that reaches its `}` returns 0 (5.1.2.2.3)
abbrev pub answer_of : Outcome → Answer
answer_of (Falls m out) = Ended out (pos 0)
answer_of (Returns v out) = Ended out v
answer_of (Stops out) = Running out
answer_of (Fails out) = Undefined out

abbrev pub body_run : List Code → ℕ → Memory → Answer
body_run [] n m = Undefined []
body_run (c ∷ cs) n m = answer_of (code_run c n m)

-- the run of a program with an input, up to a bound; no statement of the form reads input
abbrev pub run : List Declaration → List ℕ → ℕ → Answer
run p input n = body_run (bodies p) n (first_memory p)
