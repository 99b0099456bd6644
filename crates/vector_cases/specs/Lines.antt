-- What the line of a case says.
use Rattle.std.specs.Prelude.{◌≡◌, ℕ, ◌==◌, List, [], ◌∷◌, ◌++◌, length, map, codes, slice_get, Option, Some, None, option_map, if◌then◌else◌}
use Rattle.std.specs.List.{AllZip, flat_map}
use Rattle.std.specs.String.{string_bytes}
use Rattle.text_edits.specs.Files.{PlainFile, plain_files}
use Rattle.vector_cases.specs.declared.case.Case.{Case}
use Rattle.vector_cases.specs.declared.case.Output.{Output}
use Rattle.vector_cases.specs.declared.case.Output.TheVariants.{Written, Files, Nothing}
use Rattle.vector_cases.specs.Fields.{Value, number, bytes, Spells, parted}

-- the name and the bytes of a file
abbrev pub file_values : PlainFile → List Value
file_values file = bytes file.name ∷ bytes file.bytes ∷ []

-- how many files there are, and each
abbrev pub files_values : List PlainFile → List Value
files_values files = number (length files) ∷ flat_map file_values files

-- how many words there are, and the words
abbrev pub words_values : List (List ℕ) → List Value
words_values words = number (length words) ∷ map bytes words

-- a file in a folder
abbrev pub named : Option (List ℕ) → Option (List ℕ) → Option (List ℕ)
named (Some file) (Some folder) = Some (folder ++ (codes "/" ++ file))
named other folder = None

-- the name under which `quick FILE OLD NEW OUT` may write; no other command writes one file
abbrev pub target_of : Output → List (List ℕ) → Option (List ℕ)
target_of Written words = named (slice_get words 1) (slice_get words 4)
target_of other words = None

-- what is written where one file may be, under this name
abbrev pub target_files : ℕ → Option (List ℕ) → List ℕ → List PlainFile
target_files status None said = []
target_files status (Some name) said = if status == 0 then record { name = name; bytes = said } ∷ [] else []

-- what a line says of the files that are written, with this status and under this name, if there is one
abbrev pub SaysWritten : Output → ℕ → Option (List ℕ) → List PlainFile → List Value → Type 0
SaysWritten Written status target files values = (said : List ℕ) × (values ≡ bytes said ∷ []) × (files ≡ target_files status target said)
SaysWritten Files status target files values = values ≡ files_values files
SaysWritten Nothing status target files values = (values ≡ []) × (files ≡ [])

-- The line holds the case: its files, its words, the status, what is printed, what is written and the label, and nothing behind that.
pub record IsLineOf (line : List ℕ) (output : Output) (case : Case) : Type 0 where
  pub target : option_map string_bytes case.target ≡ target_of output (map string_bytes case.words.items)
  pub values : List Value
  pub written : SaysWritten output case.status (option_map string_bytes case.target) (plain_files case.written) values
  pub spelled :
      AllZip Spells (parted line)
      (files_values (plain_files case.files)
      ++ (words_values (map string_bytes case.words.items) ++ (number case.status ∷ bytes case.printed.items ∷ values ++ bytes (string_bytes case.label) ∷ [])))
