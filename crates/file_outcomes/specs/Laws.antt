-- What becomes of project files; it is the contract of a function of this crate.
use Rattle.std.specs.Prelude.{ℕ, List}
use Rattle.std.specs.declared.alloc.Global.{Global}
use Rattle.project_file.specs.Projects.{PlainProject, IsProject}
use Rattle.project_file.specs.Faults.{Fault, FirstFault}

-- a file says a project or has a first fault
abbrev pub NoFileIsLeftOut : Type 0
NoFileIsLeftOut =
    (alloc : Global) (name bytes : List ℕ) → ((project : PlainProject) → IsProject name bytes project → ⊥)
    → ((fault : Fault) → FirstFault name bytes fault → ⊥) → ⊥
