-- What a command does: it reads files one after another, and then says something.
use Rattle.std.specs.Prelude.{◌≡◌, ℕ, List, [], ◌∷◌, All}
use Rattle.text_edits.specs.Files.{PlainFile}
use Rattle.project_store.specs.States.{StoreState, Stands}

-- a status, the report, and the files that are written before the report is given
pub record Saying : Type 0 where
  pub status : ℕ
  pub report : List ℕ
  pub written : List PlainFile

-- to read the file of a name, or to say something
pub data Deed : Type 0 where
  reads : List ℕ → Deed
  says : Saying → Deed

-- what is done next where these files were read, in this order
abbrev pub Course : Type 1
Course = List PlainFile → Deed → Type 0

-- These files are read in their order, and then the course does this.
abbrev pub Leads : Course → List PlainFile → Deed → Type 0
Leads course [] deed = course [] deed
Leads course (file ∷ files) deed = course [] (reads file.name) × Leads (λ more. course (file ∷ more)) files deed

-- the file is what stands under its name
abbrev pub IsThere : StoreState → PlainFile → Type 0
IsThere store file = Stands store file.name file.bytes

-- the course comes to this over what stands in the store
pub record Comes (course : Course) (store : StoreState) (deed : Deed) : Type 0 where
  pub files : List PlainFile
  pub are_there : All (IsThere store) files
  pub leads : Leads course files deed

-- two courses do the same where both do something
abbrev pub Agree : Course → Course → Type 0
Agree course other = (files : List PlainFile) (a b : Deed) → course files a → other files b → a ≡ b

-- a course does one thing at most
abbrev pub IsDecided : Course → Type 0
IsDecided course = Agree course course
