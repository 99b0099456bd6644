-- What a caller of a command may rely on; all of it follows from `Answers` for each command that is decided.
use Rattle.std.specs.Prelude.{◌≡◌, ◌≢◌, ◌⊎◌, ℕ, ◌≤◌, false, List, [], ◌∷◌, length, codes, Some, None, Contains}
use Rattle.project_store.specs.Faults.{Rose}
use Rattle.project_store.specs.States.{StoreState, SinkState, Kept}
use Rattle.command_promises.specs.Courses.{Saying, Course, reads, says, Comes}
use Rattle.command_promises.specs.Sayings.{line}
use Rattle.command_promises.specs.Writing.{PutsAll, LacksRoomFor}
use Rattle.command_promises.specs.Endings.{Ending, Holds, report_of, IsUnread, IsUnwritten, Takes, BreaksOff, Told}
use Rattle.command_promises.specs.Commands.{Command, IsOwn}

-- none of the three counts of faults rose
pub record NoneRose (before after : StoreState) (sink sink' : SinkState) : Type 0 where
  pub read : Rose before.read_faults after.read_faults → ⊥
  pub write : Rose before.write_faults after.write_faults → ⊥
  pub report : Rose sink.faults sink'.faults → ⊥

-- both rooms are told, and suffice for whatever the course comes to say
pub record RoomsSuffice (course : Course) (before : StoreState) (sink : SinkState) : Type 0 where
  pub store_told : before.tells_room
  pub sink_told : sink.tells_room
  pub for_store : (what : Saying) → Comes course before (says what) → LacksRoomFor before what.written → ⊥
  pub for_sink : (what : Saying) → Comes course before (says what) → length what.report ≤ sink.room

-- no fault can come between
abbrev pub Undisturbed : Course → StoreState → StoreState → SinkState → SinkState → Type 0
Undisturbed course before after sink sink' = NoneRose before after sink sink' ⊎ RoomsSuffice course before sink

-- memory ended, and that was said; or the sink failed in it
abbrev pub EndsInMemory : SinkState → SinkState → ℕ → Type 0
EndsInMemory sink sink' status = Told 7 (line (codes "want of memory")) sink sink' status

-- each file that the course comes to read is there
abbrev pub HasFiles : Course → StoreState → Type 0
HasFiles course before =
    (name : List ℕ) → Comes course before (reads name) → (bytes : List ℕ) × (before.file name ≡ Some bytes)

-- this is what the course comes to say; it is printed, and its files are written, if there are any
pub record SaysSo (course : Course) (before after : StoreState) (sink sink' : SinkState) (status : ℕ) : Type 0 where
  pub what : Saying
  pub comes : Comes course before (says what)
  pub status_is : what.status ≡ status
  pub written : before.tells → PutsAll before.file what.written after.file
  pub prints : Takes sink sink' what.report

-- a file that the course comes to read wasn't read, and isn't there, where the store tells its room
pub record ReadFails (course : Course) (before after : StoreState) (sink sink' : SinkState) : Type 0 where
  pub name : List ℕ
  pub is_unread : IsUnread course before after name
  pub prints : Takes sink sink' (line (codes "read fault"))

-- of the files that the course comes to write the first k are whole, and the room is too small for all, where the store tells it
pub record WriteFails (course : Course) (before after : StoreState) (sink sink' : SinkState) : Type 0 where
  pub what : Saying
  pub is_unwritten : IsUnwritten course before after what
  pub prints : Takes sink sink' (line (codes "write fault"))

-- nothing is written
pub record MemoryEnds (before after : StoreState) (sink sink' : SinkState) : Type 0 where
  pub kept : Kept before after
  pub prints : Takes sink sink' (line (codes "want of memory"))

-- the sink failed in the report of an ending whose cause holds
pub record SinkFails (course : Course) (before after : StoreState) (sink sink' : SinkState) : Type 0 where
  pub ending : Ending
  pub holds : Holds course before after ending
  pub breaks_off : BreaksOff sink sink' (report_of ending)

pub record Promises (command : Command) (query : command.Query) (before after : StoreState) (sink sink' : SinkState) (status : ℕ) : Type 0 where
  -- Which status comes, what is printed, and what the store holds then.
  pub statuses : Contains (3 ∷ 4 ∷ 6 ∷ 7 ∷ command.statuses) status
  pub said : IsOwn status → SaysSo (command.Does query) before after sink sink' status
  pub read_fault : status ≡ 3 → ReadFails (command.Does query) before after sink sink'
  pub write_fault : status ≡ 4 → WriteFails (command.Does query) before after sink sink'
  pub sink_fault : status ≡ 6 → SinkFails (command.Does query) before after sink sink'
  pub memory : status ≡ 7 → MemoryEnds before after sink sink'
  pub untouched : status ≢ 0 → status ≢ 4 → status ≢ 6 → Kept before after
  pub reads_only : command.writes ≡ false → (status ≢ 4) × Kept before after
  -- Where nothing disturbs it, the status is that of what the command comes to say, or memory ends.
  pub complete : before.tells → (what : Saying) → Comes (command.Does query) before (says what)
      → Undisturbed (command.Does query) before after sink sink' → (status ≡ what.status) ⊎ EndsInMemory sink sink' status
  -- A file that isn't there is a fault.
  pub missing : before.tells → (name : List ℕ) → Comes (command.Does query) before (reads name) → before.file name ≡ None
      → Contains (3 ∷ 6 ∷ 7 ∷ []) status
  -- Where files and room suffice, no fault comes.
  pub sure : before.tells → HasFiles (command.Does query) before → RoomsSuffice (command.Does query) before sink
      → Contains command.statuses status ⊎ EndsInMemory sink sink' status
  -- Each fault has its status, where the counts are exact: with another no count moved.
  pub reads_stood : before.exact → status ≢ 3 → status ≢ 6 → after.read_faults ≡ before.read_faults
  pub writes_stood : before.exact → status ≢ 4 → status ≢ 6 → after.write_faults ≡ before.write_faults
  pub sink_stood : sink.exact → status ≢ 6 → sink'.faults ≡ sink.faults
