-- How a call ends: what holds of the store then, and of the sink.
use Rattle.std.specs.Prelude.{◌≡◌, ◌≢◌, ◌⊎◌, ℕ, ◌<◌, List, [], ◌++◌, length, codes}
use Rattle.project_store.specs.Lookup.{IsPrefix}
use Rattle.project_store.specs.Faults.{Rose}
use Rattle.project_store.specs.States.{StoreState, SinkState, Kept, IsAbsent}
use Rattle.command_promises.specs.Courses.{Saying, Course, reads, says, Comes}
use Rattle.command_promises.specs.Sayings.{line}
use Rattle.command_promises.specs.Writing.{PutsAll, StandsAt, LacksRoomFor}

-- something is said, the file of this name isn't read, something isn't written whole, or memory ends before a file is written
pub data Ending : Type 0 where
  said : Saying → Ending
  unread : List ℕ → Ending
  unwritten : Saying → Ending
  memory_ended : Ending

abbrev pub status_of : Ending → ℕ
status_of (said what) = what.status
status_of (unread name) = 3
status_of (unwritten what) = 4
status_of memory_ended = 7

abbrev pub report_of : Ending → List ℕ
report_of (said what) = what.report
report_of (unread name) = line (codes "read fault")
report_of (unwritten what) = line (codes "write fault")
report_of memory_ended = line (codes "want of memory")

-- no read was at fault, where the counts are exact; no write
abbrev pub ReadsStood : StoreState → StoreState → Type 0
ReadsStood before after = before.exact → after.read_faults ≡ before.read_faults

abbrev pub WritesStood : StoreState → StoreState → Type 0
WritesStood before after = before.exact → after.write_faults ≡ before.write_faults

pub record IsSaid (course : Course) (before after : StoreState) (what : Saying) : Type 0 where
  pub comes : Comes course before (says what)
  pub written : before.tells → PutsAll before.file what.written after.file
  pub reads_stood : ReadsStood before after
  pub writes_stood : WritesStood before after

pub record IsUnread (course : Course) (before after : StoreState) (name : List ℕ) : Type 0 where
  pub comes : Comes course before (reads name)
  pub rose : Rose before.read_faults after.read_faults
  pub kept : Kept before after
  pub absent : IsAbsent before name
  pub writes_stood : WritesStood before after

pub record IsUnwritten (course : Course) (before after : StoreState) (what : Saying) : Type 0 where
  pub comes : Comes course before (says what)
  pub some : what.written ≢ []
  pub rose : Rose before.write_faults after.write_faults
  pub part : before.tells → (k : ℕ) × StandsAt k before.file what.written after.file
  pub lacks : before.tells_room → LacksRoomFor before what.written
  pub reads_stood : ReadsStood before after

pub record IsOutOfMemory (before after : StoreState) : Type 0 where
  pub kept : Kept before after
  pub reads_stood : ReadsStood before after
  pub writes_stood : WritesStood before after

-- the cause of an ending, and what the store holds then
abbrev pub Holds : Course → StoreState → StoreState → Ending → Type 0
Holds course before after (said what) = IsSaid course before after what
Holds course before after (unread name) = IsUnread course before after name
Holds course before after (unwritten what) = IsUnwritten course before after what
Holds course before after memory_ended = IsOutOfMemory before after

-- the sink took the whole report
pub record Takes (before after : SinkState) (report : List ℕ) : Type 0 where
  pub taken : before.tells → after.taken ≡ before.taken ++ report
  pub stood : before.exact → after.faults ≡ before.faults

-- after what it had, the sink took a front of the report
pub record TookFront (before report after : List ℕ) : Type 0 where
  pub front : List ℕ
  pub is_prefix : IsPrefix front report
  pub after_is : after ≡ before ++ front

-- the sink failed in the report; where it tells its room, that was too small
pub record BreaksOff (before after : SinkState) (report : List ℕ) : Type 0 where
  pub rose : Rose before.faults after.faults
  pub front : before.tells → TookFront before.taken report after.taken
  pub lacks : before.tells_room → before.room < length report

-- the report was given, and this is its status; or 6, and the sink failed in it
abbrev pub Told : ℕ → List ℕ → SinkState → SinkState → ℕ → Type 0
Told status report before after answer =
    ((answer ≡ status) × Takes before after report) ⊎ ((answer ≡ 6) × BreaksOff before after report)

-- A call answered: an ending whose cause holds, its status and its report; or 6 where the sink failed in the report.
pub record Answers (course : Course) (before after : StoreState) (sink sink' : SinkState) (status : ℕ) : Type 0 where
  pub ending : Ending
  pub holds : Holds course before after ending
  pub told : Told (status_of ending) (report_of ending) sink sink' status
