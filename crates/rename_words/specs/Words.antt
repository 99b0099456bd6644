-- The words of `rename PROJECT FILE@OFFSET NEW OUT`.
use Rattle.std.specs.Prelude.{◌≡◌, ℕ, ◌≤◌, true, List, [], ◌∷◌, ◌++◌, decimal}
use Rattle.c_names.specs.Names.{is_new_name}
use Rattle.c_names.specs.FileNames.{is_file_name}
use Rattle.folder_names.specs.Folders.{is_folder_name, IsApart}
use Rattle.command_projects.specs.Names.{is_project_name}

-- a new name for what stands at an offset of a project's file, and the folder in which the files are written then
pub record RenameQuery : Type 0 where
  pub project : List ℕ
  pub file : List ℕ
  pub offset : ℕ
  pub new : List ℕ
  pub out : List ℕ

-- the largest offset that a word names
abbrev pub largest_offset : ℕ
largest_offset = 4294967295

-- the word is `FILE@OFFSET`, for this file and this offset
pub record IsPlace (word file : List ℕ) (offset : ℕ) : Type 0 where
  pub word_is : word ≡ file ++ 64 ∷ decimal offset
  pub is_name : is_file_name file ≡ true
  pub bounded : offset ≤ largest_offset

-- The names are of their forms, and the output folder is neither the project file nor a folder that it stands in.
pub record IsGood (q : RenameQuery) : Type 0 where
  pub project : is_project_name q.project ≡ true
  pub new : is_new_name q.new ≡ true
  pub out : is_folder_name q.out ≡ true
  pub apart : IsApart q.project q.out

-- the further words, `PROJECT FILE@OFFSET NEW OUT`, ask for this renaming
pub record Asks (further : List (List ℕ)) (q : RenameQuery) : Type 0 where
  pub place : List ℕ
  pub words_are : further ≡ q.project ∷ place ∷ q.new ∷ q.out ∷ []
  pub place_is : IsPlace place q.file q.offset
  pub good : IsGood q
