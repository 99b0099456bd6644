-- The renaming of a reference class.
use Rattle.std.specs.Prelude.{◌≡◌, ◌↔◌, ℕ, ◌+◌, ◌<◌, ◌≤◌, ◌==◌, List, [], ◌∷◌, ◌++◌, length, Some, slice_get, codes, decimal, Contains, IsTrue, if◌then◌else◌}
use Rattle.text_edits.specs.Files.{PlainFile}
use Rattle.c_text.specs.Token.{PlainToken}
use Rattle.c_text.specs.Lines.{PlainLine, AreItsLines}
use Rattle.project_file.specs.Projects.{PlainProject}
use Rattle.renamings.specs.Renamings.{Renaming, is_renamed, AreAscending}
use Rattle.program_occurrences.specs.Classes.{PlainFileToken}
use Rattle.reference_classes.specs.Products.{InClass}

-- the name that is written at a token of a file
pub record IsWrittenAt (files : List PlainFile) (token : PlainFileToken) (name : List ℕ) : Type 0 where
  pub file : PlainFile
  pub is_file : slice_get files token.file ≡ Some file
  pub lines : List PlainLine
  pub are_lines : AreItsLines token.file file.bytes lines
  pub line : PlainLine
  pub among : Contains lines line
  pub there : PlainToken
  pub within : Contains line.tokens there
  pub span_is : there.origin.span ≡ token.span
  pub text : there.text ≡ name

-- The class of the place gets this name: exactly its tokens are renamed in the project's files, in the order of each text.
pub record RenamesClass (project : PlainProject) (files : List PlainFile) (place : PlainFileToken) (new : List ℕ) (r : Renaming) : Type 0 where
  pub old_name : IsWrittenAt files place r.old
  pub new_name : r.new ≡ new
  pub members :
      (token : PlainFileToken) → token.file < length files
      → IsTrue (is_renamed r token.file token.span) ↔ InClass project files place token
  pub ascending : (number : ℕ) → AreAscending (r.spans number)
  pub elsewhere : (number : ℕ) → length files ≤ number → r.spans number ≡ []

-- how many tokens it renames in the files from the one with this number on, and in how many of these files
abbrev pub count_tokens : Renaming → ℕ → List PlainFile → ℕ
count_tokens r number [] = 0
count_tokens r number (f ∷ files) = length (r.spans number) + count_tokens r (number + 1) files

abbrev pub count_files : Renaming → ℕ → List PlainFile → ℕ
count_files r number [] = 0
count_files r number (f ∷ files) = (if length (r.spans number) == 0 then 0 else 1) + count_files r (number + 1) files

-- what is reported of it
abbrev pub report_of : Renaming → List PlainFile → List ℕ
report_of r files =
    codes "renamed " ++ decimal (count_tokens r 0 files) ++ codes " tokens in " ++ decimal (count_files r 0 files) ++ codes " files"
