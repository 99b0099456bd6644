-- The laws, each the contract of a function of this crate.
use Rattle.std.specs.Prelude.{◌≡◌, ℕ, Bool, List, IsTrue, All}
use Rattle.quick_form.specs.Words.{is_number}
use Rattle.quick_form.specs.Form.{Items, Reads}
use Rattle.quick_form.specs.Program.{program, IsAccepted}
use Rattle.quick_form.specs.Run as quick
use Rattle.core_meaning.specs.Run as core
use Rattle.quick_core.specs.Present.{present_items, declarations, item_numbers}
use Rattle.quick_core.specs.CoreProgram.{core_program}

-- an answer of the quick form as one of a core program
abbrev pub core_answer : quick.Answer → core.Answer
core_answer (quick.Ended output status) = core.Ended output status
core_answer (quick.Running output) = core.Running output
core_answer (quick.Undefined output) = core.Undefined output

abbrev pub ProgramIsOfItems : Type 0
ProgramIsOfItems = (on : List ℕ → Bool) (items : Items) → program on items ≡ declarations (present_items on items)

abbrev pub NumbersAreRead : Type 0
NumbersAreRead =
    (on : List ℕ → Bool) (bytes : List ℕ) (items : Items)
    → Reads bytes items → All (λ d. IsTrue (is_number d)) (item_numbers (present_items on items))

abbrev pub RunsAgree : Type 0
RunsAgree =
    (on : List ℕ → Bool) (bytes : List ℕ) (items : Items) → Reads bytes items → IsAccepted (program on items)
    → (input : List ℕ) (bound : ℕ)
    → core.run (core_program (present_items on items)) input bound ≡ core_answer (quick.run (program on items) input bound)
