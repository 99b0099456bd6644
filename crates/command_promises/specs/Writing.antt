-- Files that are written one after another.
use Rattle.std.specs.Prelude.{ℕ, zero, suc, ◌+◌, ◌<◌, ◌⊎◌, List, [], ◌∷◌, length}
use Rattle.text_edits.specs.Files.{PlainFile, Lookup}
use Rattle.project_store.specs.Lookup.{SameFiles, PutsFile, LeavesPart}
use Rattle.project_store.specs.Room.{names_taken}
use Rattle.project_store.specs.States.{StoreState}

-- all of them are whole, and every other name is as before
abbrev pub PutsAll : Lookup → List PlainFile → Lookup → Type 0
PutsAll before [] after = SameFiles before after
PutsAll before (file ∷ files) after =
    (between : Lookup) × PutsFile before file.name file.bytes between × PutsAll between files after

-- The store stands at k: the first k files are whole, the next holds a prefix of its bytes or is as before, and every other name
-- is as before.
abbrev pub StandsAt : ℕ → Lookup → List PlainFile → Lookup → Type 0
StandsAt k before [] after = ⊥
StandsAt zero before (file ∷ files) after = LeavesPart before file.name file.bytes after
StandsAt (suc k) before (file ∷ files) after =
    (between : Lookup) × PutsFile before file.name file.bytes between × StandsAt k between files after

-- the names that the files take from the room of a store, and the bytes
abbrev pub names_needed : Lookup → List PlainFile → ℕ
names_needed held [] = 0
names_needed held (file ∷ files) = names_taken (held file.name) + names_needed held files

abbrev pub bytes_needed : List PlainFile → ℕ
bytes_needed [] = 0
bytes_needed (file ∷ files) = length file.name + length file.bytes + bytes_needed files

-- the store's room is too small for the files
abbrev pub LacksRoomFor : StoreState → List PlainFile → Type 0
LacksRoomFor store files = (store.names_left < names_needed store.file files) ⊎ (store.bytes_left < bytes_needed files)
