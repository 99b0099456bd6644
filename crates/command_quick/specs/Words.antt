-- The words of `quick FILE OLD NEW OUT`.
use Rattle.std.specs.Prelude.{◌≡◌, ℕ, true, false, List, [], ◌∷◌}
use Rattle.std.specs.Str.{bytes_eq}
use Rattle.c_names.specs.Names.{is_new_name}
use Rattle.c_names.specs.FileNames.{is_file_name}
use Rattle.folder_names.specs.Folders.{in_folder, is_folder_name, IsApart}

-- a renaming of one name in one file of the quick form
pub record Renaming : Type 0 where
  pub file : List ℕ
  pub old : List ℕ
  pub new : List ℕ
  pub out : List ℕ

-- the name under which the renamed file is written
abbrev pub target : Renaming → List ℕ
target r = in_folder r.out r.file

-- The names are of their forms, the new name is another than the old, and the output folder is neither the file nor a folder
-- that the file stands in.
pub record IsGood (r : Renaming) : Type 0 where
  pub file : is_file_name r.file ≡ true
  pub new : is_new_name r.new ≡ true
  pub out : is_folder_name r.out ≡ true
  pub changes : bytes_eq r.old r.new ≡ false
  pub apart : IsApart r.file r.out

-- the further words, `FILE OLD NEW OUT`
abbrev pub words_of : Renaming → List (List ℕ)
words_of r = r.file ∷ r.old ∷ r.new ∷ r.out ∷ []

-- the further words ask for this renaming
pub record Asks (further : List (List ℕ)) (r : Renaming) : Type 0 where
  pub words_are : further ≡ words_of r
  pub good : IsGood r
