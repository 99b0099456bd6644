-- What a store and a sink tell and count at one moment.
use Rattle.std.specs.Prelude.{◌≡◌, ℕ, ◌≤◌, List, Some, None}
use Rattle.text_edits.specs.Files.{Lookup}
use Rattle.project_store.specs.Lookup.{SameFiles}

-- The files are those of a store that tells what it holds. The counts of faults are exact where they rise at faults alone.
pub record StoreState : Type 1 where
  pub tells : Type 0
  pub file : Lookup
  pub exact : Type 0
  pub read_faults : ℕ
  pub write_faults : ℕ
  pub tells_room : Type 0
  pub names_left : ℕ
  pub bytes_left : ℕ

pub record SinkState : Type 1 where
  pub tells : Type 0
  pub taken : List ℕ
  pub exact : Type 0
  pub faults : ℕ
  pub tells_room : Type 0
  pub room : ℕ

-- a store that tells what it holds holds what it held
abbrev pub Kept : StoreState → StoreState → Type 0
Kept before after = before.tells → SameFiles before.file after.file

-- the bytes stand under the name, where the store tells what it holds
abbrev pub Stands : StoreState → List ℕ → List ℕ → Type 0
Stands store name bytes = store.tells → store.file name ≡ Some bytes

-- nothing stands under the name, where the store tells its room
abbrev pub IsAbsent : StoreState → List ℕ → Type 0
IsAbsent store name = store.tells_room → store.file name ≡ None

-- a store was read alone: nothing that it tells changed, and the count of write faults neither
pub record IsReadAlone (before after : StoreState) : Type 0 where
  pub told : before.tells → after.tells
  pub files : Kept before after
  pub exact : before.exact → after.exact
  pub reads : before.read_faults ≤ after.read_faults
  pub writes : after.write_faults ≡ before.write_faults
  pub room_told : before.tells_room → after.tells_room
  pub names : before.tells_room → after.names_left ≡ before.names_left
  pub room : before.tells_room → after.bytes_left ≡ before.bytes_left
