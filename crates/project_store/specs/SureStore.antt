use Rattle.std.specs.Prelude.{◌≡◌, ℕ}
use Rattle.text_edits.specs.declared.files.Files.{Files}
use Rattle.text_edits.specs.Files.{Lookup, plain_files, lookup_of}
use Rattle.project_store.specs.declared.sure_store.SureStore.{SureStore}
use Rattle.project_store.specs.PackedFiles.{files_of}
use Rattle.project_store.specs.States.{StoreState}

-- what stands under each name
abbrev pub held : SureStore → Lookup
held store = lookup_of (files_of store.files)

-- how many further names the store takes
abbrev pub names_left_of : SureStore → ℕ
names_left_of store = store.names_left

-- how many further bytes the store takes
abbrev pub bytes_left_of : SureStore → ℕ
bytes_left_of store = store.bytes_left

-- how many reads failed
abbrev pub read_faults_of : SureStore → ℕ
read_faults_of store = store.read_faults

-- how many writes failed
abbrev pub write_faults_of : SureStore → ℕ
write_faults_of store = store.write_faults

-- what the store tells and counts
abbrev pub state_of : SureStore → StoreState
state_of store = record {
  tells = Unit {0};
  file = held store;
  exact = Unit {0};
  read_faults = read_faults_of store;
  write_faults = write_faults_of store;
  tells_room = Unit {0};
  names_left = names_left_of store;
  bytes_left = bytes_left_of store;
}

-- the store holds these files, has room for so many further names and bytes, and counted no fault
pub record IsNew (files : Files) (names bytes : ℕ) (store : SureStore) : Type 0 where
  pub holds : held store ≡ lookup_of (plain_files files)
  pub names_left : names_left_of store ≡ names
  pub bytes_left : bytes_left_of store ≡ bytes
  pub read_faults : read_faults_of store ≡ 0
  pub write_faults : write_faults_of store ≡ 0
