-- A larger bound, and what it means that one run reaches another.
use Rattle.std.specs.Prelude.{◌≡◌, ℕ, ◌≤◌, List, ◌++◌, ⊤}
use Rattle.core_meaning.specs.Program.{PlainProgram, PlainExpression, PlainPlace, PlainArguments, PlainStatement, PlainItems}
use Rattle.core_meaning.specs.Outcomes.{State, Outcome, Comes, Exits, Stops, Fails, Piece}
use Rattle.core_meaning.specs.Meaning.{Frame, Job, value_of, place_of, values_of, ending_of, items_ending, meaning}
use Rattle.core_meaning.specs.Run.{Answer, Ended, Running, Undefined, run}

abbrev pub output_of : Answer → List ℕ
output_of (Ended out status) = out
output_of (Running out) = out
output_of (Undefined out) = out

-- the second output goes on where the first ends
abbrev pub Extends : List ℕ → List ℕ → Type 0
Extends out longer = (more : List ℕ) × (longer ≡ out ++ more)

-- the second answer goes on where the first was cut off
abbrev pub GoesOn : Answer → Answer → Type 0
GoesOn (Ended out status) b = b ≡ Ended out status
GoesOn (Undefined out) b = b ≡ Undefined out
GoesOn (Running out) b = Extends out (output_of b)

-- A larger bound keeps the answer of a run that has ended or is undefined, and only lengthens the output of one that the
-- bound cut off.
abbrev pub RunsGrow : Type 0
RunsGrow = (p : PlainProgram) (input : List ℕ) (m n : ℕ) → m ≤ n → GoesOn (run p input m) (run p input n)

-- ---- pieces of a run

abbrev pub outcome_output : {A : Type 0} → Outcome A → List ℕ
outcome_output (Comes x s out) = out
outcome_output (Exits status out) = out
outcome_output (Stops out) = out
outcome_output (Fails out) = out

-- the second outcome goes on where the bound cut the first off
abbrev pub OutcomeGoesOn : {A : Type 0} → Outcome A → Outcome A → Type 0
OutcomeGoesOn (Comes x s out) b = b ≡ Comes x s out
OutcomeGoesOn (Exits status out) b = b ≡ Exits status out
OutcomeGoesOn (Fails out) b = b ≡ Fails out
OutcomeGoesOn (Stops out) b = Extends out (outcome_output b)

abbrev pub PieceGoesOn : {A : Type 0} → Piece A → Piece A → Type 0
PieceGoesOn piece longer = (s : State) → OutcomeGoesOn (piece s) (longer s)

-- each piece of a run at a bound goes on at another one
pub record PiecesGoOn (p : PlainProgram) (m n : ℕ) : Type 0 where
  pub values : (frame : Frame) (e : PlainExpression) → PieceGoesOn (value_of p (meaning p m) frame e) (value_of p (meaning p n) frame e)
  pub places : (frame : Frame) (place : PlainPlace) → PieceGoesOn (place_of p (meaning p m) frame place) (place_of p (meaning p n) frame place)
  pub arguments : (frame : Frame) (es : PlainArguments) → PieceGoesOn (values_of p (meaning p m) frame es) (values_of p (meaning p n) frame es)
  pub statements : (frame : Frame) (s : PlainStatement) → PieceGoesOn (ending_of p (meaning p m) frame s) (ending_of p (meaning p n) frame s)
  pub items : (frame : Frame) (items : PlainItems) → PieceGoesOn (items_ending p (meaning p m) frame items) (items_ending p (meaning p n) frame items)
  -- a call's body and a loop's turn
  pub jobs : (job : Job) → PieceGoesOn (meaning p m job) (meaning p n job)

-- A larger bound keeps how a piece of a run comes out, and only lengthens the output of one that the bound cut off.
abbrev pub PiecesGrow : Type 0
PiecesGrow = (p : PlainProgram) (m n : ℕ) → m ≤ n → PiecesGoOn p m n

-- ---- reaching

abbrev pub IsDefined : Answer → Type 0
IsDefined (Ended out status) = ⊤
IsDefined (Running out) = ⊤
IsDefined (Undefined out) = ⊥

-- The first answer is reached by the second: an end by the same end, and a run that the bound cut off by whatever goes on
-- from there without undefined behaviour. Undefined behaviour is reached by nothing.
abbrev pub IsReachedBy : Answer → Answer → Type 0
IsReachedBy (Ended out status) b = b ≡ Ended out status
IsReachedBy (Running out) b = IsDefined b × Extends out (output_of b)
IsReachedBy (Undefined out) b = ⊥

abbrev pub ReachingIsTransitive : Type 0
ReachingIsTransitive = (a b c : Answer) → IsReachedBy a b → IsReachedBy b c → IsReachedBy a c

-- A run that isn't undefined at a bound isn't at a smaller one, and reaches what it came to there.
abbrev pub LargerBoundReaches : Type 0
LargerBoundReaches =
    (p : PlainProgram) (input : List ℕ) (m n : ℕ) → m ≤ n → IsDefined (run p input n) → IsReachedBy (run p input m) (run p input n)
