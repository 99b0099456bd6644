-- The run of a core program with an input up to a bound (ISO/IEC 9899:2011, 5.1.2.2.3, 5.1.2.3).
use Rattle.std.specs.Prelude.{ℕ, ◌+◌, true, false, ℤ, pos, List, [], ◌∷◌, ◌++◌, length, map, Some, None, option_map, slice_get, slice_index_or, if◌then◌else◌}
use Rattle.c_types.specs.Types.{PlainType, void, char, int, array_of}
use Rattle.c_types.specs.Integers.{converted}
use Rattle.core_meaning.specs.Program.{PlainConstantPart, PlainGlobal, PlainProgram}
use Rattle.core_meaning.specs.Values.{part, number, Cells, scalar, same_path}
use Rattle.core_meaning.specs.Memory.{Object, Memory, unwritten, zeros, fresh}
use Rattle.core_meaning.specs.Outcomes.{State, Outcome, Comes, Exits, Stops, Fails}
use Rattle.core_meaning.specs.Meaning.{Ending, falls, returns, body_of, meaning, job_ending}

-- ---- before `main` begins

-- what the parts give, and zeros elsewhere (6.7.9)
abbrev pub first_cells : List PlainConstantPart → Cells → Cells
first_cells [] zero_cells path = zero_cells path
first_cells (x ∷ rest) zero_cells path = if same_path path x.path then Some x.value else first_cells rest zero_cells path

abbrev pub global_object : List (List PlainType) → PlainGlobal → Object
global_object structs g = fresh g.ty (first_cells g.parts (zeros structs g.ty))

-- a text's bytes, and the zero behind them (6.4.5)
abbrev pub text_cells : List ℕ → Cells
text_cells bytes (part k ∷ []) = option_map (λ b. number (converted char (pos b))) (slice_get (bytes ++ 0 ∷ []) k)
text_cells bytes other = None

abbrev pub literal_object : List ℕ → Object
literal_object bytes = record { ty = array_of char (length bytes + 1); lives = true; writable = false; cells = text_cells bytes }

abbrev pub no_object : Object
no_object = record { ty = void; lives = false; writable = false; cells = unwritten }

abbrev pub first_objects : PlainProgram → List Object
first_objects p = map (global_object p.structs) p.globals ++ map literal_object p.literals

abbrev pub memory_of : List Object → Memory
memory_of objects = record { made = length objects; object = λ k. slice_index_or objects k no_object }

abbrev pub first_state : PlainProgram → List ℕ → State
first_state p input = record { memory = memory_of (first_objects p); input = input; temporaries = [] }

-- ---- answers

-- the answer of a run, with all its output
pub data Answer : Type 0 where
  Ended : (output : List ℕ) → (status : ℤ) → Answer
  Running : (output : List ℕ) → Answer
  Undefined : (output : List ℕ) → Answer

-- how the first call of `main` ends the program; without a `return` it gives 0 (5.1.2.2.3)
abbrev pub answer_at : Ending → List ℕ → Answer
answer_at falls out = Ended out (pos 0)
answer_at (returns (scalar (number z))) out = Ended out (converted int z)
answer_at other out = Undefined out

abbrev pub answer_of : Outcome Ending → Answer
answer_of (Comes ending s out) = answer_at ending out
answer_of (Exits status out) = Ended out status
answer_of (Stops out) = Running out
answer_of (Fails out) = Undefined out

-- the body of the first call of `main` has the whole bound
abbrev pub run : PlainProgram → List ℕ → ℕ → Answer
run p input n = answer_of (job_ending p (meaning p n) (body_of p.main []) (first_state p input))
