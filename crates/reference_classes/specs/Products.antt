-- Reference classes: which tokens of a project's files mean one thing, in whichever product of the project they are read.
use Rattle.std.specs.Prelude.{◌≡◌, Bool, List}
use Rattle.text_edits.specs.Files.{PlainFile}
use Rattle.cond_formula.specs.Features.{has}
use Rattle.core_meaning.specs.Program.{PlainProgram}
use Rattle.project_file.specs.Projects.{PlainProject}
use Rattle.project_program.specs.Programs.{IsProgram}
use Rattle.command_projects.specs.Least.{IsAdmitted}
use Rattle.program_occurrences.specs.Occurrences.{UnitNames, names_of_units}
use Rattle.program_occurrences.specs.Classes.{PlainFileToken, IsBrought}

-- a configuration that the project admits and that is accepted, with its program
pub record Product (project : PlainProject) (files : List PlainFile) (c : List Bool) : Type 0 where
  pub admitted : IsAdmitted project c
  pub program : PlainProgram
  pub is_program : IsProgram project files (has c) program

-- the names of the units that are present in it, in the order of the project
abbrev pub names_in : {project : PlainProject} {files : List PlainFile} {c : List Bool} → Product project files c → List UnitNames
names_in product = names_of_units product.is_program.trees

-- these are the names of the units of some product
pub record AreOfProduct (project : PlainProject) (files : List PlainFile) (units : List UnitNames) : Type 0 where
  pub configuration : List Bool
  pub product : Product project files configuration
  pub same : units ≡ names_in product

-- The reference class of a token of a file.
abbrev pub InClass : PlainProject → List PlainFile → PlainFileToken → PlainFileToken → Type 0
InClass project files place token = IsBrought (AreOfProduct project files) place token
