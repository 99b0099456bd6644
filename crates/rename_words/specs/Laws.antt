-- LAWS, each the contract of a function of this crate.
use Rattle.std.specs.Prelude.{◌≡◌, ◌↔◌, ℕ, List}
use Rattle.project_file.specs.Projects.{PlainProject}
use Rattle.project_file.specs.Laws.{Alike}
use Rattle.rename_words.specs.Words.{RenameQuery, Asks}
use Rattle.rename_words.specs.Fits.{Fits}

-- words ask for one renaming at most
abbrev pub AsksAreOne : Type 0
AsksAreOne = (further : List (List ℕ)) (q p : RenameQuery) → Asks further q → Asks further p → q ≡ p

-- words that fit a project name one of its files
abbrev pub FitsAreOne : Type 0
FitsAreOne = (q : RenameQuery) (project : PlainProject) (m n : ℕ) → Fits q project m → Fits q project n → m ≡ n

-- words that fit a project fit each reading of its file, and name the same file of it
abbrev pub FitsAreAlike : Type 0
FitsAreAlike = (q : RenameQuery) (a b : PlainProject) (number : ℕ) → Alike a b → Fits q a number ↔ Fits q b number
