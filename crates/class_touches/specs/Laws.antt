-- LAWS, each the contract of a function of this crate.
use Rattle.std.specs.Prelude.{◌↔◌, ℕ, Bool, List, Contains}
use Rattle.text_edits.specs.Files.{PlainFile}
use Rattle.project_file.specs.Projects.{PlainProject}
use Rattle.program_occurrences.specs.Classes.{PlainFileToken}
use Rattle.reference_classes.specs.Products.{InClass}
use Rattle.reference_classes.specs.Preconditions.{IsTouched, IsReadAsMacro}
use Rattle.class_touches.specs.Touches.{IsTouchedBy, IsReadAsMacroBy}

-- the list has the tokens of the class of a place, and no others
abbrev pub IsListOf : PlainProject → List PlainFile → PlainFileToken → List PlainFileToken → Type 0
IsListOf project files place tokens = (token : PlainFileToken) → Contains tokens token ↔ InClass project files place token

-- A configuration is touched by a list that is a class exactly where the class is touched.
abbrev pub ListsTouchAsClasses : Type 0
ListsTouchAsClasses =
    (project : PlainProject) (files : List PlainFile) (place : PlainFileToken) (tokens : List PlainFileToken) (c : List Bool)
    → IsListOf project files place tokens → IsTouchedBy project files tokens c ↔ IsTouched project files place c

-- And so it is with names that are macros.
abbrev pub ListsAreReadAsClasses : Type 0
ListsAreReadAsClasses =
    (project : PlainProject) (files : List PlainFile) (place : PlainFileToken) (tokens : List PlainFileToken) (c : List Bool) (name : List ℕ)
    → IsListOf project files place tokens → IsReadAsMacroBy project files tokens name c ↔ IsReadAsMacro project files place c name
