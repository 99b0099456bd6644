-- What it is that a course comes to something.
use Rattle.std.specs.Prelude.{◌≡◌, ℕ, List, All, Some, None}
use Rattle.text_edits.specs.Files.{PlainFile, Lookup}
use Rattle.project_store.specs.States.{StoreState}
use Rattle.command_promises.specs.Courses.{Saying, Deed, reads, says, Course, Leads, Comes}

-- Over what stands under the names the course comes to this.
pub record ComesOver (course : Course) (held : Lookup) (deed : Deed) : Type 0 where
  pub files : List PlainFile
  pub are_held : All (λ f. held f.name ≡ Some f.bytes) files
  pub leads : Leads course files deed

-- It comes to something to say, or to a file that isn't there.
abbrev pub Concludes : Course → Lookup → Type 0
Concludes course held =
    ((what : Saying) → ComesOver course held (says what) → ⊥) → ((name : List ℕ) → ComesOver course held (reads name) → held name ≡ None → ⊥) → ⊥

-- The same over a store.
abbrev pub ComesToSomething : Course → StoreState → Type 0
ComesToSomething course store =
    ((what : Saying) → Comes course store (says what) → ⊥) → ((name : List ℕ) → Comes course store (reads name) → store.file name ≡ None → ⊥) → ⊥
