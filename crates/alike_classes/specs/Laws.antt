-- LAWS, each the contract of a function of this crate. Projects that are alike differ at most in how their conditions are written
-- (project_file: `Alike`). Alikeness is symmetric, so what is said from the one to the other is so back again.
use Rattle.std.specs.Prelude.{◌≡◌, ◌↔◌, ℕ, Bool, List}
use Rattle.text_edits.specs.Files.{PlainFile}
use Rattle.project_file.specs.Projects.{PlainProject}
use Rattle.project_file.specs.Laws.{Alike}
use Rattle.renamings.specs.Renamings.{Renaming}
use Rattle.program_occurrences.specs.Occurrences.{UnitNames, Occurrence}
use Rattle.program_occurrences.specs.Classes.{PlainFileToken}
use Rattle.reference_classes.specs.Products.{Product, names_in, AreOfProduct, InClass}
use Rattle.reference_classes.specs.Preconditions.{IsFound, IsTouched, SomeOccurrence, IsReadAsMacro, IsCaptured, Precondition, StandsInTheWay, Breaks, BreaksNamed}
use Rattle.reference_classes.specs.Renamed.{RenamesClass}
use Rattle.renamed_sources.specs.Projects.{HasItsFiles}
use Rattle.class_touches.specs.Laws.{IsListOf}
use Rattle.named_classes.specs.Classes.{NamedClass, Finds, IsNamedClass}

-- a product of the other project that has the same program and the same names
pub record HasProduct {project : PlainProject} {files : List PlainFile} {c : List Bool} (product : Product project files c) (other : PlainProject) : Type 0 where
  pub of_other : Product other files c
  pub program : product.program ≡ of_other.program
  pub names : names_in product ≡ names_in of_other

module _ (a b : PlainProject) (files : List PlainFile) where
  -- the same products, which have the same names; so the same classes, which the same renamings rename
  pub record HaveSameClasses : Type 0 where
    pub products : (c : List Bool) (product : Product a files c) → HasProduct product b
    pub names : (units : List UnitNames) → AreOfProduct a files units ↔ AreOfProduct b files units
    pub classes : (place token : PlainFileToken) → InClass a files place token ↔ InClass b files place token
    pub lists : (place : PlainFileToken) (tokens : List PlainFileToken) → IsListOf a files place tokens ↔ IsListOf b files place tokens
    pub renamings : (place : PlainFileToken) (new : List ℕ) (r : Renaming) → RenamesClass a files place new r ↔ RenamesClass b files place new r
    pub files_are : HasItsFiles a files ↔ HasItsFiles b files

  -- In the same configurations something is found at a place, a class is touched, has an occurrence and is read as a macro, and each precondition
  -- is broken.
  pub record HaveSamePreconditions : Type 0 where
    pub found : (place : PlainFileToken) (c : List Bool) → IsFound a files place c ↔ IsFound b files place c
    pub touched : (place : PlainFileToken) (c : List Bool) → IsTouched a files place c ↔ IsTouched b files place c
    pub occurrences :
        (place : PlainFileToken) (c : List Bool) (occurrence : Occurrence)
        → SomeOccurrence a files place c (λ o. o ≡ occurrence) ↔ SomeOccurrence b files place c (λ o. o ≡ occurrence)
    pub read_as_macro :
        (place : PlainFileToken) (c : List Bool) (name : List ℕ)
        → IsReadAsMacro a files place c name ↔ IsReadAsMacro b files place c name
    pub captured : (r : Renaming) (c : List Bool) → IsCaptured a files r c ↔ IsCaptured b files r c
    pub in_the_way :
        (place : PlainFileToken) (r : Renaming) (precondition : Precondition) (c : List Bool)
        → StandsInTheWay a files place r precondition c ↔ StandsInTheWay b files place r precondition c
    pub broken :
        (place : PlainFileToken) (r : Renaming) (precondition : Precondition) (c : List Bool)
        → Breaks a files place r precondition c ↔ Breaks b files place r precondition c
    pub broken_by_name :
        (place : PlainFileToken) (r : Renaming) (name : List ℕ) (c : List Bool)
        → BreaksNamed a files place r name c ↔ BreaksNamed b files place r name c

  -- Something is found at a byte in the same configurations, and it leads to the same class.
  pub record HaveSameNamedClasses : Type 0 where
    pub finds : (file offset : ℕ) (c : List Bool) → Finds a files file offset c ↔ Finds b files file offset c
    pub named : (file offset : ℕ) (class : NamedClass) → IsNamedClass a files file offset class ↔ IsNamedClass b files file offset class

abbrev pub ClassesAreAlike : Type 0
ClassesAreAlike = (a b : PlainProject) (files : List PlainFile) → Alike a b → HaveSameClasses a b files

abbrev pub PreconditionsAreAlike : Type 0
PreconditionsAreAlike = (a b : PlainProject) (files : List PlainFile) → Alike a b → HaveSamePreconditions a b files

abbrev pub NamedClassesAreAlike : Type 0
NamedClassesAreAlike = (a b : PlainProject) (files : List PlainFile) → Alike a b → HaveSameNamedClasses a b files
