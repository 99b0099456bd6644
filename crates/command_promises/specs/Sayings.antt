-- What the calls of commands give: something to say, or why they stopped.
use Rattle.std.specs.Prelude.{ℕ, List, [], ◌∷◌, ◌++◌, codes, Result, Ok, Err, ⊤}
use Rattle.text_edits.specs.Files.{plain_files}
use Rattle.project_store.specs.States.{StoreState, IsAbsent}
use Rattle.project_store.specs.declared.store.StoreFault.{StoreFault}
use Rattle.project_store.specs.declared.store.StoreFault.TheVariants as fault
use Rattle.command_promises.specs.declared.said.Said.{Said}
use Rattle.command_promises.specs.declared.said.Stop.{Stop}
use Rattle.command_promises.specs.declared.said.Stop.TheVariants.{ReadFault, WantOfMemory}
use Rattle.command_promises.specs.Courses.{Saying, Course, reads, says, Comes}

abbrev pub saying : Said → Saying
saying said = record { status = said.status; report = said.report.items; written = plain_files said.written }

abbrev pub line : List ℕ → List ℕ
line text = text ++ 10 ∷ []

-- a report alone, with its status
abbrev pub tells : ℕ → List ℕ → Saying
tells status report = record { status = status; report = report; written = [] }

-- the words ask for nothing
abbrev pub usage : Saying
usage = tells 2 (line (codes "usage"))

-- the course comes to a file that isn't there, where the store tells its room
pub record ComesToUnread (course : Course) (store : StoreState) : Type 0 where
  pub name : List ℕ
  pub comes : Comes course store (reads name)
  pub absent : IsAbsent store name

abbrev pub Stops : Course → StoreState → Stop → Type 0
Stops course store ReadFault = ComesToUnread course store
Stops course store WantOfMemory = ⊤

-- what the course comes to is said; or a file wasn't read, or memory ended
abbrev pub CameTo : Course → StoreState → Result Said Stop → Type 0
CameTo course store (Ok said) = Comes course store (says (saying said))
CameTo course store (Err stop) = Stops course store stop

-- why a call stops where a read failed
abbrev pub stop_of : StoreFault → Stop
stop_of fault.Failed = ReadFault
stop_of fault.Memory = WantOfMemory

-- something is said that the course does at once, unless memory ends
abbrev pub SaysOrEnds : Course → Result Said Stop → Type 0
SaysOrEnds course (Ok said) = course [] (says (saying said))
SaysOrEnds course (Err ReadFault) = ⊥
SaysOrEnds course (Err WantOfMemory) = ⊤
