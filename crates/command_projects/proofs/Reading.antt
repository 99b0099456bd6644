-- What is read of a project and its files, and where the course comes to by that.
use Rattle.std.proofs.Common.{◌≡◌, inl, inr, ℕ, zero, suc, ◌≤◌, List, [], ◌∷◌, ◌++◌, map, length, All, Result, Ok, Err, slice_index_or, refl, sym, ◌∙◌, ap, subst, arith}
use Rattle.std.specs.String.{string_bytes}
use Rattle.text_edits.specs.Files.{PlainFile}
use Rattle.project_file.specs.Contents.{longest_file}
use Rattle.project_file.specs.Projects.{PlainProject}
use Rattle.project_file.specs.Faults.{Fault, size, not_toml, shape, feature, duplicate, constraint}
use Rattle.project_file.specs.View.{Why}
use Rattle.project_file.specs.declared.errors.ProjectError.{ProjectError}
use Rattle.project_file.specs.declared.errors.ProjectError.TheVariants as error
use Rattle.project_store.specs.States.{StoreState, IsAbsent, IsReadAlone}
use Rattle.project_store.specs.Reads.{SaysProject, HasFault, IsRead, AreFilesOf, IsNext, IsTooLong, HasAbsent, IsSource, IsLong}
use Rattle.command_promises.specs.declared.said.Said.{Said}
use Rattle.command_promises.specs.declared.said.Stop.{Stop}
use Rattle.command_promises.specs.declared.said.Stop.TheVariants.{ReadFault, WantOfMemory}
use Rattle.command_promises.specs.Courses.{Deed, reads, says, Course, Leads, IsThere, Comes}
use Rattle.command_promises.specs.Sayings.{saying, ComesToUnread, CameTo}
use Rattle.command_promises.proofs.Leading.{leads_by, comes_by, all_tail, all_head}
use Rattle.command_projects.specs.Faults.{bad_project, SaysFault, Refuses}
use Rattle.command_projects.specs.Projects.{WithProject, WithFit, WithFiles}

cons_all : {X : Type 0} (P : X → Type 0) (x : X) (xs : List X) → P x → All P xs → All P (x ∷ xs)
cons_all P x xs h k zero d less = h
cons_all P x xs h k (suc i) d less = k i d (omega (arith, less))

append_all : {X : Type 0} (P : X → Type 0) (xs ys : List X) → All P xs → All P ys → All P (xs ++ ys)
append_all P [] ys h k = k
append_all P (x ∷ xs) ys h k = cons_all P x (xs ++ ys) (all_head P x xs h) (append_all P xs ys (all_tail P x xs h) k)

-- ---- the project file

module _ (store : StoreState) (name : List ℕ) (Then : PlainProject → Course) where
  pub comes_to_name : Comes (WithProject name Then) store (reads name)
  comes_to_name = record { files = []; are_there = λ k d less. absurd (omega (arith, less)); leads = refl }

  pub comes_with_project : (project : PlainProject) (deed : Deed) → SaysProject store name project → Comes (Then project) store deed → Comes (WithProject name Then) store deed
  comes_with_project project deed h c = record {
    files = record { name = name; bytes = h.bytes } ∷ c.files;
    are_there = cons_all (IsThere store) (record { name = name; bytes = h.bytes }) c.files h.stands c.are_there;
    leads = (
      refl,
      leads_by (Then project) (λ more. WithProject name Then (record { name = name; bytes = h.bytes } ∷ more)) (λ files deed k. inr (project, h.is_project, k)) c.files deed c.leads,
    );
  }

  pub comes_to_fault : (fault : Fault) → HasFault store name fault → Comes (WithProject name Then) store (says (bad_project fault))
  comes_to_fault fault h = record {
    files = record { name = name; bytes = h.bytes } ∷ [];
    are_there = cons_all (IsThere store) (record { name = name; bytes = h.bytes }) [] h.stands (λ k d less. absurd (omega (arith, less)));
    leads = (refl, inl (fault, h.first, refl));
  }

  pub unread_project : IsAbsent store name → ComesToUnread (WithProject name Then) store
  unread_project absent = record { name = name; comes = comes_to_name; absent = absent }

-- ---- whether the words fit

pub comes_with_fit : {Fit : Type 0} (Fits : Fit → Type 0) (Then : Fit → Course) (store : StoreState) (deed : Deed) (fit : Fit) → Fits fit → Comes (Then fit) store deed → Comes (WithFit Fits Then) store deed
comes_with_fit Fits Then store deed fit h c = comes_by (Then fit) (WithFit Fits Then) store deed (λ files deed k. inl (fit, h, k)) c

-- ---- the files

short_of : (store : StoreState) (f : PlainFile) → IsRead store f → length f.bytes ≤ longest_file
short_of store f h = h.short

are_there_of : (store : StoreState) (files : List PlainFile) → All (IsRead store) files → All (IsThere store) files
are_there_of store files h k d less = (h k d less).stands

-- files that are short lead on to what comes behind them
through : (store : StoreState) (front : List PlainFile) (rest : List (List ℕ)) (Then : List PlainFile → Course) (more : List PlainFile) (deed : Deed) → All (IsRead store) front
    → Leads (WithFiles rest (λ sources. Then (front ++ sources))) more deed → Leads (WithFiles (map (λ (f : PlainFile). f.name) front ++ rest) Then) (front ++ more) deed
through store [] rest Then more deed h k = leads_by (WithFiles rest (λ sources. Then ([] ++ sources))) (WithFiles rest Then) (λ files deed x. x) more deed k
through store (f ∷ front) rest Then more deed h k = (
  refl,
  leads_by (WithFiles (map (λ (g : PlainFile). g.name) front ++ rest) (λ sources. Then (f ∷ sources)))
      (λ files. WithFiles (f.name ∷ (map (λ (g : PlainFile). g.name) front ++ rest)) Then (f ∷ files))
      (λ files deed x. inr ((all_head (IsRead store) f front h).short, x)) (front ++ more) deed
      (through store front rest (λ sources. Then (f ∷ sources)) more deed (all_tail (IsRead store) f front h) k),
)

append_none : {X : Type 0} (xs : List X) → xs ++ [] ≡ xs
append_none [] = refl
append_none (x ∷ xs) = ap (λ ys. x ∷ ys) (append_none xs)

module _ (store : StoreState) (names : List (List ℕ)) (Then : List PlainFile → Course) where
  pub comes_with_files : (sources : List PlainFile) (deed : Deed) → AreFilesOf store names sources → Comes (Then sources) store deed → Comes (WithFiles names Then) store deed
  comes_with_files sources deed h c = record {
    files = sources ++ c.files;
    are_there = append_all (IsThere store) sources c.files (are_there_of store sources h.are_read) c.are_there;
    leads =
        let none : map (λ (f : PlainFile). f.name) sources ++ [] ≡ names = append_none (map (λ (f : PlainFile). f.name) sources) ∙ h.named in
        subst (λ ns. Leads (WithFiles ns Then) (sources ++ c.files) deed) none
        (through store sources [] Then c.files deed h.are_read
        (leads_by (Then sources) (WithFiles [] (λ more. Then (sources ++ more))) (λ files deed x. subst (λ s. Then s files deed) (sym (append_none sources)) x) c.files deed c.leads));
  }

  comes_next : (name : List ℕ) (more : List PlainFile) (deed : Deed) → (next : IsNext store names name) → All (IsThere store) more
      → Leads (WithFiles (name ∷ next.rest) (λ sources. Then (next.front ++ sources))) more deed → Comes (WithFiles names Then) store deed
  comes_next name more deed next there leads = record {
    files = next.front ++ more;
    are_there = append_all (IsThere store) next.front more (are_there_of store next.front next.are_read) there;
    leads = subst (λ ns. Leads (WithFiles ns Then) (next.front ++ more) deed) (sym next.split) (through store next.front (name ∷ next.rest) Then more deed next.are_read leads);
  }

  pub comes_to_long : (fault : Fault) → IsTooLong store names fault → Comes (WithFiles names Then) store (says (bad_project fault))
  comes_to_long (size name) h =
      let file : PlainFile = record { name = name; bytes = h.is_long.bytes } in
      comes_next name (file ∷ []) (says (bad_project (size name))) h.next
      (cons_all (IsThere store) file [] h.is_long.stands (λ k d less. absurd (omega (arith, less)))) (refl, inl (h.is_long.long, refl))
  comes_to_long not_toml h = absurd h
  comes_to_long (shape key) h = absurd h
  comes_to_long (feature name) h = absurd h
  comes_to_long (duplicate name) h = absurd h
  comes_to_long (constraint place) h = absurd h

  pub unread_file : HasAbsent store names → ComesToUnread (WithFiles names Then) store
  unread_file h = record {
    name = h.name;
    comes = comes_next h.name [] (reads h.name) h.next (λ k d less. absurd (omega (arith, less))) refl;
    absent = h.absent;
  }

-- ---- one file

module _ (store : StoreState) (name : List ℕ) where
  next_alone : IsNext store (name ∷ []) name
  next_alone = record { front = []; rest = []; split = refl; are_read = λ k d less. absurd (omega (arith, less)) }

  pub file_alone : (f : PlainFile) → IsSource store name f → AreFilesOf store (name ∷ []) (f ∷ [])
  file_alone f h = record { named = ap (λ n. n ∷ []) h.name_is; are_read = cons_all (IsRead store) f [] h.is_read (λ k d less. absurd (omega (arith, less))) }

  pub long_alone : (fault : Fault) → IsLong store name fault → IsTooLong store (name ∷ []) fault
  long_alone (size other) h = subst (λ n. IsTooLong store (name ∷ []) (size n)) (sym h.0) (record { next = next_alone; is_long = h.1 })
  long_alone not_toml h = absurd h
  long_alone (shape key) h = absurd h
  long_alone (feature other) h = absurd h
  long_alone (duplicate other) h = absurd h
  long_alone (constraint place) h = absurd h

  pub absent_alone : IsAbsent store name → HasAbsent store (name ∷ [])
  absent_alone absent = record { name = name; next = next_alone; absent = absent }

-- ---- a call behind one that read alone

pub comes_before : (before middle : StoreState) (course : Course) (deed : Deed) → IsReadAlone before middle → Comes course middle deed → Comes course before deed
comes_before before middle course deed alone c = record {
  files = c.files;
  are_there = λ k d less t. alone.files t (slice_index_or c.files k d).name ∙ c.are_there k d less (alone.told t);
  leads = c.leads;
}

pub came_before : (before middle : StoreState) (course : Course) (came : Result Said Stop) → IsReadAlone before middle → (before.tells_room → before.tells) → CameTo course middle came → CameTo course before came
came_before before middle course (Ok said) alone told h = comes_before before middle course (says (saying said)) alone h
came_before before middle course (Err ReadFault) alone told h = record {
  name = h.name;
  comes = comes_before before middle course (reads h.name) alone h.comes;
  absent = λ room. alone.files (told room) h.name ∙ h.absent (alone.room_told room);
}
came_before before middle course (Err WantOfMemory) alone told h = tt

-- what goes on with a project goes on behind it
pub came_with_project : (store : StoreState) (name : List ℕ) (Then : PlainProject → Course) (project : PlainProject) (came : Result Said Stop) → SaysProject store name project → CameTo (Then project) store came → CameTo (WithProject name Then) store came
came_with_project store name Then project (Ok said) says_project h = comes_with_project store name Then project (says (saying said)) says_project h
came_with_project store name Then project (Err ReadFault) says_project h =
    record { name = h.name; comes = comes_with_project store name Then project (reads h.name) says_project h.comes; absent = h.absent }
came_with_project store name Then project (Err WantOfMemory) says_project h = tt

pub came_with_fit : {Fit : Type 0} (Fits : Fit → Type 0) (Then : Fit → Course) (store : StoreState) (fit : Fit) (came : Result Said Stop) → Fits fit → CameTo (Then fit) store came → CameTo (WithFit Fits Then) store came
came_with_fit Fits Then store fit (Ok said) is h = comes_with_fit Fits Then store (says (saying said)) fit is h
came_with_fit Fits Then store fit (Err ReadFault) is h =
    record { name = h.name; comes = comes_with_fit Fits Then store (reads h.name) fit is h.comes; absent = h.absent }
came_with_fit Fits Then store fit (Err WantOfMemory) is h = tt

pub came_with_files : (store : StoreState) (names : List (List ℕ)) (Then : List PlainFile → Course) (sources : List PlainFile) (came : Result Said Stop) → AreFilesOf store names sources → CameTo (Then sources) store came → CameTo (WithFiles names Then) store came
came_with_files store names Then sources (Ok said) are h = comes_with_files store names Then sources (says (saying said)) are h
came_with_files store names Then sources (Err ReadFault) are h =
    record { name = h.name; comes = comes_with_files store names Then sources (reads h.name) are h.comes; absent = h.absent }
came_with_files store names Then sources (Err WantOfMemory) are h = tt

-- ---- no project, or no file

module _ (course : Course) (store : StoreState) (Is : Fault → Type 0) (Unread : Type 0) (comes : (fault : Fault) → Is fault → Comes course store (says (bad_project fault))) (unread : Unread → ComesToUnread course store) where
  fault_came : (fault : Fault) (came : Result Said Stop) → Is fault → SaysFault fault came → CameTo course store came
  fault_came fault (Ok said) is h = subst (λ what. Comes course store (says what)) (sym h) (comes fault is)
  fault_came fault (Err ReadFault) is h = absurd h
  fault_came fault (Err WantOfMemory) is h = tt

  pub refusal_came : (e : ProjectError) (came : Result Said Stop) → Why Is Unread e → Refuses e came → CameTo course store came
  refusal_came error.NotToml came why h = fault_came not_toml came why h
  refusal_came (error.Shape key) came why h = fault_came (shape (string_bytes key)) came why h
  refusal_came (error.Feature name) came why h = fault_came (feature (string_bytes name)) came why h
  refusal_came (error.Constraint place) came why h = fault_came (constraint place) came why h
  refusal_came (error.Duplicate name) came why h = fault_came (duplicate (string_bytes name)) came why h
  refusal_came (error.Size name) came why h = fault_came (size (string_bytes name)) came why h
  refusal_came error.Read came why h = subst (CameTo course store) (sym h) (unread why)
  refusal_came error.Memory came why h = subst (CameTo course store) (sym h) tt
