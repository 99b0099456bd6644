-- What is read from a store: files, and the project that its file says.
use Rattle.std.specs.Prelude.{◌≡◌, ℕ, ◌<◌, ◌≤◌, List, ◌∷◌, ◌++◌, map, length, All}
use Rattle.text_edits.specs.Files.{PlainFile}
use Rattle.project_file.specs.Contents.{longest_file}
use Rattle.project_file.specs.Projects.{PlainProject, IsProject}
use Rattle.project_file.specs.Faults.{Fault, size, FirstFault}
use Rattle.project_file.specs.declared.errors.ProjectError.{ProjectError}
use Rattle.project_file.specs.declared.errors.ProjectError.TheVariants.{Read, Memory}
use Rattle.project_store.specs.declared.store.StoreFault.{StoreFault}
use Rattle.project_store.specs.declared.store.StoreFault.TheVariants as store
use Rattle.project_store.specs.States.{StoreState, Stands, IsAbsent}

-- the bytes under the name say this project
pub record SaysProject (store : StoreState) (name : List ℕ) (project : PlainProject) : Type 0 where
  pub bytes : List ℕ
  pub stands : Stands store name bytes
  pub is_project : IsProject name bytes project

-- the first fault of the bytes under the name
pub record HasFault (store : StoreState) (name : List ℕ) (fault : Fault) : Type 0 where
  pub bytes : List ℕ
  pub stands : Stands store name bytes
  pub first : FirstFault name bytes fault

-- the names of a project's files: headers first, then units
abbrev pub names_of : PlainProject → List (List ℕ)
names_of project = project.headers ++ map (λ u. u.file) project.units

-- the file is short enough, and is what stands under its name
pub record IsRead (store : StoreState) (read : PlainFile) : Type 0 where
  pub short : length read.bytes ≤ longest_file
  pub stands : Stands store read.name read.bytes

-- these are the files of the names, in their order
pub record AreFilesOf (store : StoreState) (names : List (List ℕ)) (read : List PlainFile) : Type 0 where
  pub named : map (λ f. f.name) read ≡ names
  pub are_read : All (IsRead store) read

-- the files of the names before this one were read
pub record IsNext (store : StoreState) (names : List (List ℕ)) (name : List ℕ) : Type 0 where
  pub front : List PlainFile
  pub rest : List (List ℕ)
  pub split : names ≡ map (λ f. f.name) front ++ name ∷ rest
  pub are_read : All (IsRead store) front

-- one file that is too long
pub record IsLongFile (store : StoreState) (name : List ℕ) : Type 0 where
  pub bytes : List ℕ
  pub stands : Stands store name bytes
  pub long : longest_file < length bytes

-- the first of the names whose file is too long: those before it were read
pub record IsFirstTooLong (store : StoreState) (names : List (List ℕ)) (name : List ℕ) : Type 0 where
  pub next : IsNext store names name
  pub is_long : IsLongFile store name

abbrev pub IsTooLong : StoreState → List (List ℕ) → Fault → Type 0
IsTooLong store names (size name) = IsFirstTooLong store names name
IsTooLong store names _ = ⊥

-- the first of the names whose file wasn't read: those before it were
pub record HasAbsent (store : StoreState) (names : List (List ℕ)) : Type 0 where
  pub name : List ℕ
  pub next : IsNext store names name
  pub absent : IsAbsent store name

abbrev pub IsLong : StoreState → List ℕ → Fault → Type 0
IsLong store name (size other) = (other ≡ name) × IsLongFile store name
IsLong store name _ = ⊥

-- the file of the name is what was read
pub record IsSource (store : StoreState) (name : List ℕ) (read : PlainFile) : Type 0 where
  pub name_is : read.name ≡ name
  pub is_read : IsRead store read

-- the same of bytes that were read
pub record IsSourceOf (name bytes : List ℕ) (read : PlainFile) : Type 0 where
  pub name_is : read.name ≡ name
  pub bytes_are : read.bytes ≡ bytes
  pub short : length bytes ≤ longest_file

abbrev pub IsLongBytes : List ℕ → List ℕ → Fault → Type 0
IsLongBytes name bytes (size other) = (other ≡ name) × (longest_file < length bytes)
IsLongBytes name bytes _ = ⊥

-- the error about a read that gave nothing
abbrev pub unread : StoreFault → ProjectError
unread store.Failed = Read
unread store.Memory = Memory
