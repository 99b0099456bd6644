-- The words of `run PROJECT NAMES BOUND INPUT`.
use Rattle.std.specs.Prelude.{◌≡◌, ℕ, Bool, true, false, List, [], ◌∷◌, codes, Option, Some, None, if◌then◌else◌}
use Rattle.std.specs.List.{list_all}
use Rattle.std.specs.Str.{bytes_eq}
use Rattle.c_names.specs.Names.{is_new_name}
use Rattle.c_names.specs.FileNames.{is_file_name}
use Rattle.c_text.specs.Directives.{has_repetition}
use Rattle.decimal_numbers.specs.Numbers.{IsNumber}
use Rattle.command_projects.specs.Names.{is_project_name, names_in}

-- the name of the file that is the input, or `-` for none
abbrev pub input_in : List ℕ → Option (List ℕ)
input_in text = if bytes_eq text (codes "-") then None else Some text

-- whether it is that of a file, where there is one
abbrev pub is_input_name : Option (List ℕ) → Bool
is_input_name None = true
is_input_name (Some name) = is_file_name name

-- the largest bound of a run
abbrev pub largest_bound : ℕ
largest_bound = 1000000

-- the text is this number in decimal, and the number isn't too large
abbrev pub IsBound : List ℕ → ℕ → Type 0
IsBound text bound = IsNumber largest_bound text bound

-- a run of one product: the name of the project file, the names of the features that are on, the bound, and the name of the file
-- that is the input, if there is one
pub record RunQuery : Type 0 where
  pub project : List ℕ
  pub names : List (List ℕ)
  pub bound : ℕ
  pub input : Option (List ℕ)

-- the names can be those of files and of features, and no feature is named twice
pub record IsGood (q : RunQuery) : Type 0 where
  pub project : is_project_name q.project ≡ true
  pub lawful : list_all is_new_name q.names ≡ true
  pub differ : has_repetition q.names ≡ false
  pub input : is_input_name q.input ≡ true

-- the further words, `PROJECT NAMES BOUND INPUT`, ask for this run
pub record Asks (further : List (List ℕ)) (q : RunQuery) : Type 0 where
  pub names : List ℕ
  pub bound : List ℕ
  pub input : List ℕ
  pub words_are : further ≡ q.project ∷ names ∷ bound ∷ input ∷ []
  pub names_are : q.names ≡ names_in names
  pub bound_is : IsBound bound q.bound
  pub input_is : q.input ≡ input_in input
  pub good : IsGood q
