-- What the code says of edits in the definitions' terms.
use Rattle.std.specs.Prelude.{ℕ, Option, Some, None}
use Rattle.file_edits.specs.declared.edit.EditError.{EditError}
use Rattle.file_edits.specs.declared.edit.EditError.TheVariants.{PastEnd, Overlap, Memory}
use Rattle.file_edits.specs.Faults.{Fault, past_end, overlap}

abbrev pub overlap_view : Option (ℕ × ℕ) → Option Fault
overlap_view None = None
overlap_view (Some places) = Some (overlap places.0 places.1)

-- the fault that an error tells of
abbrev pub fault_view : EditError → Option Fault
fault_view (PastEnd first) = Some (past_end first)
fault_view (Overlap first second) = Some (overlap first second)
fault_view Memory = None
