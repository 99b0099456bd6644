use Rattle.std.specs.Prelude.{◌≡◌, ℕ, List}
use Rattle.text_edits.specs.declared.files.Files.{Files}
use Rattle.text_edits.specs.Files.{Lookup, plain_files, lookup_of}
use Rattle.project_store.specs.declared.calls.Calls.{Calls}
use Rattle.project_store.specs.declared.memory_store.MemoryStore.{MemoryStore}
use Rattle.project_store.specs.Calls.{IsFresh}
use Rattle.project_store.specs.States.{StoreState}

-- what stands under each name
abbrev pub held : MemoryStore → Lookup
held store = lookup_of (plain_files store.files)

-- the calls on the store, and those that shall fail
abbrev pub calls_of : MemoryStore → Calls
calls_of store = store.calls

-- how many reads failed
abbrev pub read_faults_of : MemoryStore → ℕ
read_faults_of store = store.read_faults

-- how many writes failed
abbrev pub write_faults_of : MemoryStore → ℕ
write_faults_of store = store.write_faults

-- what the store tells and counts
abbrev pub state_of : MemoryStore → StoreState
state_of store = record {
  tells = Unit {0};
  file = held store;
  exact = Unit {0};
  read_faults = read_faults_of store;
  write_faults = write_faults_of store;
  tells_room = ⊥;
  names_left = 0;
  bytes_left = 0;
}

-- the store holds these files, no call was made and no fault counted, and the calls with these
-- numbers shall fail
pub record IsNew (files : Files) (failing : List ℕ) (store : MemoryStore) : Type 0 where
  pub holds : held store ≡ lookup_of (plain_files files)
  pub calls : IsFresh failing (calls_of store)
  pub read_faults : read_faults_of store ≡ 0
  pub write_faults : write_faults_of store ≡ 0
