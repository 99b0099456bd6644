-- The reading of a file by the form's grammar.
use Rattle.std.specs.Prelude.{◌≡◌, ℕ, List, Some}
use Rattle.quick_form.specs.Symbols.{Symbol, symbols_of}
use Rattle.quick_form.specs.Form.{IsWritten}
use Rattle.quick_form.specs.Places.{IsFaultOfText}
use Rattle.quick_parser.specs.Steps.{State, after}
use Rattle.quick_rename.specs.declared.form.Reading.{Reading}
use Rattle.quick_rename.specs.declared.form.Reading.TheVariants.{Whole, Fault}

-- the symbols are all of a file, and the parser has taken them
pub record IsWhole (ks : List Symbol) (parser : State) : Type 0 where
  pub taken : after ks ≡ Some parser
  pub written : IsWritten ks

-- they are not, and this is the place of the fault of the text
pub record IsFaulty (bytes : List ℕ) (offset : ℕ) : Type 0 where
  pub unwritten : IsWritten (symbols_of bytes) → ⊥
  pub place : IsFaultOfText bytes offset

abbrev pub IsReading : List ℕ → Reading → Type 0
IsReading bytes (Whole parser) = IsWhole (symbols_of bytes) parser
IsReading bytes (Fault offset) = IsFaulty bytes offset
