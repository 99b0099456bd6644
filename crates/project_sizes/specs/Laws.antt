-- How many files a project has; it is the contract of a function of this crate.
use Rattle.std.specs.Prelude.{ℕ, ◌≤◌, List, length}
use Rattle.c_text.specs.Preprocessing.{built_in_file}
use Rattle.project_file.specs.Projects.{PlainProject, IsProject}
use Rattle.project_store.specs.Reads.{names_of}

-- The files of a project, numbered from 0, are so few that none of them has the number of the built-in file.
abbrev pub ProjectsHaveFewFiles : Type 0
ProjectsHaveFewFiles =
    (name bytes : List ℕ) (project : PlainProject) → IsProject name bytes project → length (names_of project) ≤ built_in_file
