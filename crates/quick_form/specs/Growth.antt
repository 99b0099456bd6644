-- A larger bound: it keeps what a run has come to, and only lengthens the output of one that the bound cut off.
use Rattle.std.specs.Prelude.{◌≡◌, ℕ, ◌≤◌, List, ◌++◌}
use Rattle.quick_form.specs.Program.{Declaration}
use Rattle.quick_form.specs.Run.{Answer, Ended, Running, Undefined, run}

abbrev pub output_of : Answer → List ℕ
output_of (Ended out status) = out
output_of (Running out) = out
output_of (Undefined out) = out

-- the second answer goes on where the first was cut off
abbrev pub GoesOn : Answer → Answer → Type 0
GoesOn (Ended out status) b = b ≡ Ended out status
GoesOn (Undefined out) b = b ≡ Undefined out
GoesOn (Running out) b = (more : List ℕ) × (output_of b ≡ out ++ more)

abbrev pub RunsGrow : Type 0
RunsGrow = (p : List Declaration) (input : List ℕ) (m n : ℕ) → m ≤ n → GoesOn (run p input m) (run p input n)
