-- What a project file holds, and which project it says.
use Rattle.std.specs.Prelude.{ℕ, List}
use Rattle.project_file.specs.Projects.{PlainProject, IsProject}
use Rattle.project_store.specs.States.{StoreState, Stands}

-- these bytes stand under the name, and say this project
pub record IsProjectText (store : StoreState) (name bytes : List ℕ) (project : PlainProject) : Type 0 where
  pub stands : Stands store name bytes
  pub is_project : IsProject name bytes project
