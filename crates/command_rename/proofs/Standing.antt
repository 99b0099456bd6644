-- What stands under the names of files that were written one after another in a folder.
use Rattle.std.proofs.Common.{◌≡◌, ◌≢◌, ℕ, suc, List, [], ◌∷◌, map, All, Some, Option, refl, sym, ◌∙◌, ap, subst, arith}
use Rattle.std.proofs.lemmas.List.{append_cancel_left}
use Rattle.std.proofs.lemmas.List.Elements.{All-nil, All-cons, All-head, All-tail, All-map, All-weaker}
use Rattle.std.proofs.lemmas.List.Kept.{AllPairs-cons}
use Rattle.text_edits.specs.Files.{PlainFile, Lookup}
use Rattle.folder_names.specs.Folders.{in_folder, IsInFolder}
use Rattle.c_names.specs.Bytes.{slash}
use Rattle.project_file.specs.Projects.{AllDiffer}
use Rattle.command_promises.specs.Writing.{PutsAll}
use Rattle.project_refactorings.specs.Refactorings.{files_in}

-- under another name stands what stood there
stays : (before after : Lookup) (files : List PlainFile) (name : List ℕ) → PutsAll before files after
    → All (λ other. name ≢ other) (map (λ (f : PlainFile). f.name) files) → after name ≡ before name
stays before after [] name same apart = sym (same name)
stays before after (f ∷ files) name puts apart =
    let names = map (λ (f : PlainFile). f.name) files in
    stays puts.0 after files name puts.2 (All-tail (λ other. name ≢ other) f.name names apart)
    ∙ puts.1.others name (All-head (λ other. name ≢ other) f.name names apart)

first_differs : (name : List ℕ) (names : List (List ℕ)) → AllDiffer (name ∷ names) → All (λ other. name ≢ other) names
first_differs name names differ = λ k d less. differ 0 (suc k) d (omega arith) (omega (arith, less))

rest_differ : (name : List ℕ) (names : List (List ℕ)) → AllDiffer (name ∷ names) → AllDiffer names
rest_differ name names differ = λ i j d less within. differ (suc i) (suc j) d (omega (arith, less)) (omega (arith, within))

-- where no name is written twice, all files are whole at the end
all_stand : (before after : Lookup) (files : List PlainFile) → PutsAll before files after → AllDiffer (map (λ (f : PlainFile). f.name) files)
    → All (λ (f : PlainFile). after f.name ≡ Some f.bytes) files
all_stand before after [] puts differ = All-nil (λ (f : PlainFile). after f.name ≡ Some f.bytes)
all_stand before after (f ∷ files) puts differ =
    let names = map (λ (f : PlainFile). f.name) files in
    All-cons (λ (f : PlainFile). after f.name ≡ Some f.bytes) f files
    (stays puts.0 after files f.name puts.2 (first_differs f.name names differ) ∙ puts.1.named)
    (all_stand puts.0 after files puts.2 (rest_differ f.name names differ))

-- ---- in a folder

one_in_folder : (folder a b : List ℕ) → in_folder folder a ≡ in_folder folder b → a ≡ b
one_in_folder folder a b e = let same : slash ∷ a ≡ slash ∷ b = append_cancel_left folder (slash ∷ a) (slash ∷ b) e in cc

differ_in_folder : (folder : List ℕ) (names : List (List ℕ)) → AllDiffer names → AllDiffer (map (in_folder folder) names)
differ_in_folder folder [] differ = λ i j d less within. absurd (omega (arith, within))
differ_in_folder folder (name ∷ names) differ =
    AllPairs-cons (λ a b. a ≢ b) (in_folder folder name) (map (in_folder folder) names)
    (All-map (λ other. in_folder folder name ≢ other) (in_folder folder) names
    (All-weaker (λ other. name ≢ other) (λ other. in_folder folder name ≢ in_folder folder other) (λ other apart same. apart (one_in_folder folder name other same)) names
    (first_differs name names differ)))
    (differ_in_folder folder names (rest_differ name names differ))

names_in_folder : (folder : List ℕ) (files : List PlainFile) → map (λ (f : PlainFile). f.name) (files_in folder files) ≡ map (in_folder folder) (map (λ (f : PlainFile). f.name) files)
names_in_folder folder [] = refl
names_in_folder folder (f ∷ files) = ap (λ names. in_folder folder f.name ∷ names) (names_in_folder folder files)

stand_from : (after : Lookup) (folder : List ℕ) (files : List PlainFile) → All (λ (f : PlainFile). after f.name ≡ Some f.bytes) (files_in folder files)
    → All (λ (f : PlainFile). after (in_folder folder f.name) ≡ Some f.bytes) files
stand_from after folder [] h = All-nil (λ (f : PlainFile). after (in_folder folder f.name) ≡ Some f.bytes)
stand_from after folder (f ∷ files) h =
    let put : PlainFile = record f { name = in_folder folder f.name } in
    All-cons (λ (f : PlainFile). after (in_folder folder f.name) ≡ Some f.bytes) f files
    (All-head (λ (f : PlainFile). after f.name ≡ Some f.bytes) put (files_in folder files) h)
    (stand_from after folder files (All-tail (λ (f : PlainFile). after f.name ≡ Some f.bytes) put (files_in folder files) h))

-- the files of names that differ, written in a folder, stand there
pub stand_in_folder : (before after : Lookup) (folder : List ℕ) (files : List PlainFile) → PutsAll before (files_in folder files) after
    → AllDiffer (map (λ (f : PlainFile). f.name) files) → All (λ (f : PlainFile). after (in_folder folder f.name) ≡ Some f.bytes) files
stand_in_folder before after folder files puts differ =
    stand_from after folder files
    (all_stand before after (files_in folder files) puts
    (subst AllDiffer (sym (names_in_folder folder files)) (differ_in_folder folder (map (λ (f : PlainFile). f.name) files) differ)))

-- and outside of the folder nothing changed
pub stays_outside : (before after : Lookup) (folder : List ℕ) (files : List PlainFile) (name : List ℕ) → PutsAll before (files_in folder files) after
    → (IsInFolder name folder → ⊥) → after name ≡ before name
stays_outside before after folder files name puts outside =
    stays before after (files_in folder files) name puts
    (subst (λ names. All (λ other. name ≢ other) names) (sym (names_in_folder folder files)) (apart (map (λ (f : PlainFile). f.name) files)))
  where
    apart : (names : List (List ℕ)) → All (λ other. name ≢ other) (map (in_folder folder) names)
    apart [] = All-nil (λ other. name ≢ other)
    apart (other ∷ names) = All-cons (λ other. name ≢ other) (in_folder folder other) (map (in_folder folder) names) (λ same. outside (other, same)) (apart names)

-- ---- files under names

-- files of the same names that stand there are the same
pub held_are_one : (held : Lookup) (put : List ℕ → List ℕ) (xs ys : List PlainFile) → map (λ (f : PlainFile). f.name) xs ≡ map (λ (f : PlainFile). f.name) ys
    → All (λ (f : PlainFile). held (put f.name) ≡ Some f.bytes) xs → All (λ (f : PlainFile). held (put f.name) ≡ Some f.bytes) ys → xs ≡ ys
held_are_one held put [] [] e h k = refl
held_are_one held put [] (y ∷ ys) e h k = let no : ⊥ = cc in absurd no
held_are_one held put (x ∷ xs) [] e h k = let no : ⊥ = cc in absurd no
held_are_one held put (x ∷ xs) (y ∷ ys) e h k =
    let Stands : PlainFile → Type 0 = λ f. held (put f.name) ≡ Some f.bytes in
    let name : x.name ≡ y.name = cc in
    let names : map (λ (f : PlainFile). f.name) xs ≡ map (λ (f : PlainFile). f.name) ys = cc in
    let some : ◌≡◌ {A = Option (List ℕ)} (Some x.bytes) (Some y.bytes) = sym (All-head Stands x xs h) ∙ (ap (λ n. held (put n)) name ∙ All-head Stands y ys k) in
    let bytes : x.bytes ≡ y.bytes = cc in
    let by_name : List ℕ → PlainFile = λ n. record { name = n; bytes = x.bytes } in
    let by_bytes : List ℕ → PlainFile = λ b. record { name = y.name; bytes = b } in
    let same : x ≡ y = ap by_name name ∙ ap by_bytes bytes in
    ap (λ f. f ∷ xs) same ∙ ap (λ fs. y ∷ fs) (held_are_one held put xs ys names (All-tail Stands x xs h) (All-tail Stands y ys k))
