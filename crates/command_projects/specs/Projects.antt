-- The part of a command's course in which a project and its files are read.
use Rattle.std.specs.Prelude.{◌≡◌, ◌⊎◌, ℕ, ◌<◌, ◌≤◌, Bool, true, false, List, [], ◌∷◌, length}
use Rattle.text_edits.specs.Files.{PlainFile}
use Rattle.project_file.specs.Contents.{longest_file}
use Rattle.project_file.specs.Projects.{PlainProject, IsProject}
use Rattle.project_file.specs.Faults.{Fault, size, FirstFault}
use Rattle.command_promises.specs.Courses.{Saying, Course, reads, says}
use Rattle.command_promises.specs.Sayings.{usage}
use Rattle.command_projects.specs.Faults.{bad_project}

-- The file of this name is read: its first fault is said, or one goes on with the project that it says.
abbrev pub WithProject : List ℕ → (PlainProject → Course) → Course
WithProject name Then [] deed = deed ≡ reads name
WithProject name Then (source ∷ files) deed =
    ((fault : Fault) × FirstFault name source.bytes fault × (deed ≡ says (bad_project fault)))
    ⊎ ((project : PlainProject) × IsProject name source.bytes project × Then project files deed)

-- The words fit the project in this way, and one goes on; or they fit it in none, and so are of no use.
abbrev pub WithFit : {Fit : Type 0} → (Fit → Type 0) → (Fit → Course) → Course
WithFit {Fit} Fits Then files deed =
    ((fit : Fit) × Fits fit × Then fit files deed) ⊎ (((fit : Fit) → Fits fit → ⊥) × (deed ≡ says usage))

-- The files of these names are read one after another: each is too long, which is said, or one goes on; and at last with all.
abbrev pub WithFiles : List (List ℕ) → (List PlainFile → Course) → Course
WithFiles [] Then files deed = Then [] files deed
WithFiles (name ∷ names) Then [] deed = deed ≡ reads name
WithFiles (name ∷ names) Then (file ∷ files) deed =
    ((longest_file < length file.bytes) × (deed ≡ says (bad_project (size name))))
    ⊎ ((length file.bytes ≤ longest_file) × WithFiles names (λ sources. Then (file ∷ sources)) files deed)

-- Where this isn't so, that is said; else one goes on.
abbrev pub Unless : Bool → Saying → Course → Course
Unless true what Then files deed = Then files deed
Unless false what Then files deed = deed ≡ says what
