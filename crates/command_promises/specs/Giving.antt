-- What becomes of what a call gave: its files are written, and then its report is given.
use Rattle.std.specs.Prelude.{◌≡◌, ◌≢◌, ◌⊎◌, ℕ, ◌≤◌, ◌+◌, List, [], codes, Result, Ok, Err}
use Rattle.text_edits.specs.Files.{PlainFile, plain_files}
use Rattle.project_store.specs.Faults.{Rose}
use Rattle.project_store.specs.States.{StoreState, SinkState}
use Rattle.command_promises.specs.declared.said.Said.{Said}
use Rattle.command_promises.specs.declared.said.Stop.{Stop}
use Rattle.command_promises.specs.declared.said.Stop.TheVariants.{ReadFault, WantOfMemory}
use Rattle.command_promises.specs.Sayings.{line}
use Rattle.command_promises.specs.Writing.{PutsAll, StandsAt, LacksRoomFor, names_needed, bytes_needed}
use Rattle.command_promises.specs.Endings.{WritesStood, Told}

-- all files were written
pub record WroteAll (before : StoreState) (files : List PlainFile) (after : StoreState) : Type 0 where
  pub told : before.tells → after.tells
  pub puts : before.tells → PutsAll before.file files after.file
  pub exact : before.exact → after.exact
  pub stood : WritesStood before after
  pub reads : after.read_faults ≡ before.read_faults
  pub no_fall : before.write_faults ≤ after.write_faults
  pub room_told : before.tells_room → after.tells_room
  pub names : before.tells_room → before.tells → before.names_left ≤ after.names_left + names_needed before.file files
  pub room : before.tells_room → before.bytes_left ≤ after.bytes_left + bytes_needed files

-- one of them wasn't written whole, and no further one was
pub record WrotePart (before : StoreState) (files : List PlainFile) (after : StoreState) : Type 0 where
  pub some : files ≢ []
  pub rose : Rose before.write_faults after.write_faults
  pub part : before.tells → (k : ℕ) × StandsAt k before.file files after.file
  pub lacks : before.tells_room → before.tells → LacksRoomFor before files
  pub reads : after.read_faults ≡ before.read_faults

-- the call's files were written and its report was given; or a file wasn't written whole; or there was nothing to write
abbrev pub Finished : Result Said Stop → StoreState → StoreState → SinkState → SinkState → ℕ → Type 0
Finished (Ok given) before after sink sink' status =
    (WroteAll before (plain_files given.written) after × Told given.status given.report.items sink sink' status)
    ⊎ (WrotePart before (plain_files given.written) after × Told 4 (line (codes "write fault")) sink sink' status)
Finished (Err ReadFault) before after sink sink' status =
    WroteAll before [] after × Told 3 (line (codes "read fault")) sink sink' status
Finished (Err WantOfMemory) before after sink sink' status =
    WroteAll before [] after × Told 7 (line (codes "want of memory")) sink sink' status
