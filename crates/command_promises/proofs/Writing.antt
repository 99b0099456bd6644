-- Files that are written one after another.
use Rattle.std.proofs.Common.{◌≡◌, ◌≢◌, inl, inr, ℕ, zero, suc, ◌+◌, ◌<◌, ◌≤◌, List, [], ◌∷◌, ◌++◌, length, map, take, drop, get_or, Some, Bool, true, false, Result, Ok, Err, OnErr, refl, sym, ◌∙◌, ap, subst, arith}
use Rattle.std.specs.Str.{bytes_eq}
use Rattle.std.specs.Bool.{Decides}
use Rattle.std.proofs.lemmas.Slice.Eq.{bytes_eq-Decides}
use Rattle.std.proofs.lemmas.List.{map_more}
use Rattle.text_edits.specs.declared.files.SourceFile.{SourceFile}
use Rattle.text_edits.specs.Files.{PlainFile, Lookup, plain_file}
use Rattle.project_store.specs.Faults.{Rose, HasCause}
use Rattle.project_store.specs.Lookup.{SameFiles, PutsFile, LeavesPart}
use Rattle.project_store.specs.Room.{names_taken, LacksRoom}
use Rattle.project_store.specs.States.{StoreState}
use Rattle.command_promises.specs.Giving.{WroteAll, WrotePart}
use Rattle.command_promises.specs.Writing.{PutsAll, StandsAt, names_needed, bytes_needed, LacksRoomFor}

puts_same : (before now after : Lookup) (name bytes : List ℕ) → SameFiles before now → PutsFile now name bytes after → PutsFile before name bytes after
puts_same before now after name bytes same puts =
    record { named = puts.named; others = λ other apart. puts.others other apart ∙ sym (same other) }

leaves_same : (before now after : Lookup) (name bytes : List ℕ) → SameFiles before now → LeavesPart now name bytes after → LeavesPart before name bytes after
leaves_same before now after name bytes same leaves = record {
  named = elim leaves.named [ inl e ↦ inl (e ∙ sym (same name)) | inr h ↦ inr h ];
  others = λ other apart. leaves.others other apart ∙ sym (same other);
}

-- one more file
pub puts_more : (before now after : Lookup) (files : List PlainFile) (file : PlainFile) → PutsAll before files now → PutsFile now file.name file.bytes after → PutsAll before (files ++ file ∷ []) after
puts_more before now after [] file same puts = (after, puts_same before now after file.name file.bytes same puts, λ name. refl)
puts_more before now after (f ∷ files) file all puts = (all.0, all.1, puts_more all.0 now after files file all.2 puts)

-- the next isn't whole
pub stands_next : (before now after : Lookup) (files : List PlainFile) (file : PlainFile) (rest : List PlainFile) → PutsAll before files now → LeavesPart now file.name file.bytes after → StandsAt (length files) before (files ++ file ∷ rest) after
stands_next before now after [] file rest same leaves = leaves_same before now after file.name file.bytes same leaves
stands_next before now after (f ∷ files) file rest all leaves = (all.0, all.1, stands_next all.0 now after files file rest all.2 leaves)

-- no name goes away
taken_after_put : (before after : Lookup) (name bytes other : List ℕ) → PutsFile before name bytes after → names_taken (after other) ≤ names_taken (before other)
taken_after_put before after name bytes other puts = by (bytes_eq other name) (bytes_eq-Decides other name)
  where
    by : (b : Bool) → Decides b (other ≡ name) → names_taken (after other) ≤ names_taken (before other)
    by true d =
        let e : after other ≡ Some bytes = ap after (d.0 refl) ∙ puts.named in
        subst (λ x. names_taken x ≤ names_taken (before other)) (sym e) (omega arith)
    by false d =
        let e : after other ≡ before other = puts.others other (λ same. let f : ◌≡◌ {A = Bool} false true = d.1 same in absurd cc) in
        subst (λ x. names_taken x ≤ names_taken (before other)) (sym e) (omega arith)

pub taken_after : (before now : Lookup) (files : List PlainFile) (other : List ℕ) → PutsAll before files now → names_taken (now other) ≤ names_taken (before other)
taken_after before now [] other same = let e : before other ≡ now other = same other in subst (λ x. names_taken x ≤ names_taken (before other)) e (omega arith)
taken_after before now (f ∷ files) other all =
    let h = taken_after_put before all.0 f.name f.bytes other all.1 in
    let k = taken_after all.0 now files other all.2 in
    omega (arith, h, k)

pub needed_more : (held : Lookup) (files more : List PlainFile) → names_needed held (files ++ more) ≡ names_needed held files + names_needed held more
needed_more held [] more = omega arith
needed_more held (f ∷ files) more = let e = needed_more held files more in omega (arith, e)

pub bytes_more : (files more : List PlainFile) → bytes_needed (files ++ more) ≡ bytes_needed files + bytes_needed more
bytes_more [] more = omega arith
bytes_more (f ∷ files) more = let e = bytes_more files more in omega (arith, e)

-- where the room is too small for the next file, it was too small for all
pub lacks_all : (before now : StoreState) (files : List PlainFile) (file : PlainFile) (rest : List PlainFile) → PutsAll before.file files now.file
    → before.names_left ≤ now.names_left + names_needed before.file files → before.bytes_left ≤ now.bytes_left + bytes_needed files
    → LacksRoom (now.file file.name) now.names_left now.bytes_left (length file.name + length file.bytes) → LacksRoomFor before (files ++ file ∷ rest)
lacks_all before now files file rest puts names room (inl few) =
    let taken = taken_after before.file now.file files file.name puts in
    let sum = needed_more before.file files (file ∷ rest) in
    inl (omega (arith, names, few, taken, sum))
lacks_all before now files file rest puts names room (inr few) =
    let sum = bytes_more files (file ∷ rest) in
    inr (omega (arith, room, few, sum))

-- ---- the loop over the files

file_is : (x : SourceFile) (name bytes : List ℕ) → name ≡ (plain_file x).name → bytes ≡ (plain_file x).bytes → record { name = name; bytes = bytes } ≡ plain_file x
file_is x name bytes e f =
    let by_name : List ℕ → PlainFile = λ n. record { name = n; bytes = bytes } in
    let by_bytes : List ℕ → PlainFile = λ b. record { name = (plain_file x).name; bytes = b } in
    ap by_name e ∙ ap by_bytes f

pub next_file : (xs : List SourceFile) (i : ℕ) (x : SourceFile) (name bytes : List ℕ) → i < length xs → x ≡ get_or xs i x → name ≡ (plain_file x).name → bytes ≡ (plain_file x).bytes
    → map plain_file (take (i + 1) xs) ≡ map plain_file (take i xs) ++ record { name = name; bytes = bytes } ∷ []
next_file xs i x name bytes less is e f =
    map_more plain_file xs i x less ∙ ap (λ f. map plain_file (take i xs) ++ f ∷ []) (ap plain_file (sym is) ∙ sym (file_is x name bytes e f))

pub split_at_file : (xs : List SourceFile) (i : ℕ) (x : SourceFile) (name bytes : List ℕ) → i < length xs → x ≡ get_or xs i x → name ≡ (plain_file x).name → bytes ≡ (plain_file x).bytes
    → map plain_file xs ≡ map plain_file (take i xs) ++ record { name = name; bytes = bytes } ∷ map plain_file (drop (suc i) xs)
split_at_file xs i x name bytes less is e f =
    parted xs i x less is ∙ ap (λ f. map plain_file (take i xs) ++ f ∷ map plain_file (drop (suc i) xs)) (sym (file_is x name bytes e f))
  where
    parted : (xs : List SourceFile) (k : ℕ) (x : SourceFile) → k < length xs → x ≡ get_or xs k x → map plain_file xs ≡ map plain_file (take k xs) ++ plain_file x ∷ map plain_file (drop (suc k) xs)
    parted [] k x l e = absurd (omega arith)
    parted (y ∷ xs) zero x l e = ap (λ z. plain_file z ∷ map plain_file xs) (sym e)
    parted (y ∷ xs) (suc k) x l e = ap (λ zs. plain_file y ∷ zs) (parted xs k x (omega arith) e)

-- one more file was written
pub wrote_more : {Fault : Type 0} (before now after : StoreState) (files : List PlainFile) (name bytes : List ℕ) → WroteAll before files now
    → (now.tells → PutsFile now.file name bytes after.file) → (now.tells → after.tells) → (now.exact → after.exact)
    → HasCause now.exact now.write_faults after.write_faults Fault → (Fault → ⊥) → after.read_faults ≡ now.read_faults → (now.tells_room → after.tells_room)
    → (now.tells_room → now.names_left ≤ after.names_left + names_taken (now.file name))
    → (now.tells_room → now.bytes_left ≤ after.bytes_left + length name + length bytes)
    → WroteAll before (files ++ record { name = name; bytes = bytes } ∷ []) after
wrote_more before now after files name bytes all puts told exact cause none reads room_told names room =
    let file : PlainFile = record { name = name; bytes = bytes } in
    record {
      told = λ t. told (all.told t);
      puts = λ t. puts_more before.file now.file after.file files file (all.puts t) (puts (all.told t));
      exact = λ e. exact (all.exact e);
      stood = λ e. cause.stood (all.exact e) none ∙ all.stood e;
      reads = reads ∙ all.reads;
      no_fall = let k = cause.kept in let h = all.no_fall in omega (arith, h, k);
      room_told = λ r. room_told (all.room_told r);
      names = λ r t.
          let h = all.names r t in
          let k = names (all.room_told r) in
          let taken = taken_after before.file now.file files name (all.puts t) in
          let sum = needed_more before.file files (file ∷ []) in
          omega (arith, h, k, taken, sum);
      room = λ r.
          let h = all.room r in
          let k = room (all.room_told r) in
          let sum = bytes_more files (file ∷ []) in
          omega (arith, h, k, sum);
    }

not_none : (files : List PlainFile) (file : PlainFile) (rest : List PlainFile) → files ++ file ∷ rest ≢ []
not_none [] file rest e = cc
not_none (f ∷ files) file rest e = cc

-- the next wasn't written whole
pub wrote_part : (before now after : StoreState) (files : List PlainFile) (name bytes : List ℕ) (rest : List PlainFile) → WroteAll before files now
    → (now.tells → LeavesPart now.file name bytes after.file) → Rose now.write_faults after.write_faults → after.read_faults ≡ now.read_faults
    → (now.tells_room → LacksRoom (now.file name) now.names_left now.bytes_left (length name + length bytes))
    → WrotePart before (files ++ record { name = name; bytes = bytes } ∷ rest) after
wrote_part before now after files name bytes rest all leaves rose reads lacks =
    let file : PlainFile = record { name = name; bytes = bytes } in
    record {
      some = not_none files file rest;
      rose = let h = all.no_fall in omega (arith, h, rose);
      part = λ t. (length files, stands_next before.file now.file after.file files file rest (all.puts t) (leaves (all.told t)));
      lacks = λ r t. lacks_all before now files file rest (all.puts t) (all.names r t) (all.room r) (lacks (all.room_told r));
      reads = reads ∙ all.reads;
    }

pub on_err_known : {T E : Type 0} {P : Type 0} (r : Result T E) → P → OnErr r P
on_err_known (Ok x) p = tt
on_err_known (Err e) p = p
