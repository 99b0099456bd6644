-- The words by which a project and a configuration of it are named.
use Rattle.std.specs.Prelude.{◌≡◌, ℕ, Bool, true, not, ◌&&◌, ◌==◌, List, [], ◌∷◌, codes, if◌then◌else◌}
use Rattle.std.specs.List.{join_by, list_any, slice_split}
use Rattle.std.specs.Str.{bytes_eq}
use Rattle.c_names.specs.FileNames.{is_file_name}

-- the name of a project file: a file name of one component, and not that of the proof file
abbrev pub is_project_name : List ℕ → Bool
is_project_name w =
    is_file_name w && not (list_any (λ b. b == 47) w) && not (bytes_eq w (codes "morpheus.proof"))

-- the further words, `PROJECT`, ask for this project
pub record AsksProject (further : List (List ℕ)) (project : List ℕ) : Type 0 where
  pub words_are : further ≡ project ∷ []
  pub good : is_project_name project ≡ true

-- names with commas between them, or `-` for none
abbrev pub names_in : List ℕ → List (List ℕ)
names_in text = if bytes_eq text (codes "-") then [] else slice_split (λ b. b == 44) text

-- names with commas between them; `-` where there are none
abbrev pub listed : List (List ℕ) → List ℕ
listed [] = codes "-"
listed (first ∷ names) = join_by (λ name. name) (codes ",") (first ∷ names)
