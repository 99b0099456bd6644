-- How a piece of a run comes out, and how pieces follow one another (ISO/IEC 9899:2011, 5.1.2.3).
use Rattle.std.specs.Prelude.{ℕ, ℤ, List, [], ◌++◌, Option, Some, None}
use Rattle.core_meaning.specs.Memory.{Memory, with_all_ended}

pub record State : Type 0 where
  pub memory : Memory
  -- the input that is left
  pub input : List ℕ
  -- the temporary objects of the full expression under way
  pub temporaries : List ℕ

-- What a piece comes to, and what it puts out: a result in a new state; the end of the program with a status; the bound; or
-- undefined behaviour.
pub data Outcome (A : Type 0) : Type 0 where
  Comes : A → State → List ℕ → Outcome A
  Exits : ℤ → List ℕ → Outcome A
  Stops : List ℕ → Outcome A
  Fails : List ℕ → Outcome A

-- a piece of a run
abbrev pub Piece : Type 0 → Type 0
Piece A = State → Outcome A

-- an outcome behind what was put out before
abbrev pub after : {A : Type 0} → List ℕ → Outcome A → Outcome A
after before (Comes x s out) = Comes x s (before ++ out)
after before (Exits status out) = Exits status (before ++ out)
after before (Stops out) = Stops (before ++ out)
after before (Fails out) = Fails (before ++ out)

abbrev pub followed_by : {A B : Type 0} → Outcome A → (A → State → Outcome B) → Outcome B
followed_by (Comes x s out) next = after out (next x s)
followed_by (Exits status out) next = Exits status out
followed_by (Stops out) next = Stops out
followed_by (Fails out) next = Fails out

-- a piece, and then what its result leads to; `x ← piece` in a `do` stands for it
infixl 10 ◌>>=◌
abbrev pub ◌>>=◌ : {A B : Type 0} → (State → Outcome A) → (A → State → Outcome B) → State → Outcome B
(piece >>= next) s = followed_by (piece s) next

abbrev pub give : {A : Type 0} → A → State → Outcome A
give x s = Comes x s []

abbrev pub undefined : {A : Type 0} → State → Outcome A
undefined s = Fails []

-- the behaviour is undefined where there is no result
abbrev pub given : {A : Type 0} → Option A → State → Outcome A
given (Some x) = give x
given None = undefined

abbrev pub put_out : List ℕ → State → Outcome (Unit {0})
put_out bytes s = Comes tt s bytes

abbrev pub memory_now : State → Outcome Memory
memory_now s = Comes s.memory s []

abbrev pub set_memory : Memory → State → Outcome (Unit {0})
set_memory m s = Comes tt (record s { memory = m }) []

-- a full expression: its temporary objects end with it (6.8, 6.2.4)
abbrev pub without_temporaries : List ℕ → State → State
without_temporaries outer s = record s { memory = with_all_ended s.memory s.temporaries; temporaries = outer }

abbrev pub full : {A : Type 0} → (State → Outcome A) → State → Outcome A
full piece s =
    followed_by (piece (record s { temporaries = [] })) (λ x now. Comes x (without_temporaries s.temporaries now) [])
