-- The names of output folders, and of files in them.
use Rattle.std.specs.Prelude.{◌≡◌, ℕ, Bool, false, not, ◌&&◌, ◌||◌, ◌==◌, List, ◌∷◌, ◌++◌}
use Rattle.std.specs.List.{list_all}
use Rattle.std.specs.Str.{bytes_eq}
use Rattle.c_names.specs.Bytes.{minus_sign, slash}
use Rattle.c_names.specs.Names.{is_word_byte}
use Rattle.c_names.specs.FileNames.{is_empty}

-- a letter, a digit, `_` or `-`
abbrev pub is_folder_byte : ℕ → Bool
is_folder_byte b = is_word_byte b || b == minus_sign

-- one or more of these
abbrev pub is_folder_name : List ℕ → Bool
is_folder_name w = not (is_empty w) && list_all is_folder_byte w

-- the name under which a file stands in a folder
abbrev pub in_folder : List ℕ → List ℕ → List ℕ
in_folder folder name = folder ++ slash ∷ name

-- the name begins with the folder's name and `/`
abbrev pub IsInFolder : List ℕ → List ℕ → Type 0
IsInFolder name folder = (rest : List ℕ) × (name ≡ in_folder folder rest)

-- the folder is neither the file nor a folder that the file stands in
pub record IsApart (name folder : List ℕ) : Type 0 where
  pub differs : bytes_eq folder name ≡ false
  pub outside : IsInFolder name folder → ⊥
