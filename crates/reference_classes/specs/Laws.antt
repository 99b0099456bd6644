-- What holds of reference classes; each is the contract of a function of this crate.
use Rattle.std.specs.Prelude.{◌↔◌, Bool, List, IsTrue}
use Rattle.text_edits.specs.Files.{PlainFile}
use Rattle.project_file.specs.Projects.{PlainProject}
use Rattle.program_occurrences.specs.Occurrences.{UnitNames}
use Rattle.program_occurrences.specs.Classes.{PlainFileToken, Brings}
use Rattle.reference_classes.specs.Products.{AreOfProduct, InClass}

-- what holds of the place, and with each token of all that it brings along in any product, holds of the class
abbrev pub ClassesAreLeast : Type 0
ClassesAreLeast =
    (project : PlainProject) (files : List PlainFile) (place : PlainFileToken) (holds : PlainFileToken → Bool) → IsTrue (holds place)
    → ((units : List UnitNames) (a b : PlainFileToken) → AreOfProduct project files units → IsTrue (holds a) → Brings units a b → IsTrue (holds b))
    → (token : PlainFileToken) → InClass project files place token → IsTrue (holds token)

-- each token of a class has that same class
abbrev pub ClassesAreOne : Type 0
ClassesAreOne =
    (project : PlainProject) (files : List PlainFile) (place member token : PlainFileToken) → InClass project files place member
    → InClass project files place token ↔ InClass project files member token
