-- LAWS, each the contract of a function of this crate.
use Rattle.std.specs.Prelude.{◌≡◌, ℕ, List}
use Rattle.text_edits.specs.Files.{PlainFile}
use Rattle.project_file.specs.Projects.{PlainProject}
use Rattle.command_projects.specs.Least.{Somewhere}
use Rattle.renamed_sources.specs.Projects.{HasItsFiles}
use Rattle.named_classes.specs.Classes.{NamedClass, Finds, IsNamedClass}

-- A byte leads to one class at most.
abbrev pub NamedClassesAreOne : Type 0
NamedClassesAreOne =
    (project : PlainProject) (files : List PlainFile) (file offset : ℕ) (a b : NamedClass) → IsNamedClass project files file offset a
    → IsNamedClass project files file offset b → a ≡ b

-- Where something is found at a byte, it isn't so that there is no class. (Not that there is one: whether a token is of a class is a
-- question about all products, which a proof doesn't decide.)
abbrev pub FoundAreNamed : Type 0
FoundAreNamed =
    (project : PlainProject) (files : List PlainFile) (file offset : ℕ) → HasItsFiles project files
    → Somewhere project (Finds project files file offset) → ((class : NamedClass) → IsNamedClass project files file offset class → ⊥) → ⊥
