-- Courses that come to something, step by step.
use Rattle.std.proofs.Common.{◌≡◌, inl, inr, ◌⊎◌, ℕ, suc, ◌<◌, ◌≤◌, Bool, true, false, List, [], ◌∷◌, length, Option, Some, None, refl, ap, Global}
use Rattle.std.proofs.lemmas.Bool.{cases_lt}
use Rattle.std.proofs.lemmas.List.Elements.{All-nil, All-cons, All-weaker}
use Rattle.text_edits.specs.Files.{PlainFile, Lookup}
use Rattle.project_store.specs.States.{StoreState}
use Rattle.project_file.specs.Contents.{longest_file}
use Rattle.project_file.specs.Projects.{PlainProject, IsProject}
use Rattle.project_file.specs.Faults.{size}
use Rattle.command_promises.specs.Courses.{Saying, Deed, reads, says, Course, Leads, Comes, IsThere}
use Rattle.command_promises.specs.Sayings.{usage}
use Rattle.command_promises.specs.Commands.{Command, CourseOf}
use Rattle.command_projects.specs.Faults.{bad_project}
use Rattle.command_projects.specs.Projects.{WithProject, WithFit, WithFiles, Unless}
use Rattle.file_outcomes.specs.Laws.{NoFileIsLeftOut}
use Rattle.command_outcomes.specs.Concluding.{ComesOver, Concludes, ComesToSomething}

abbrev pub file_with : List ℕ → List ℕ → PlainFile
file_with name bytes = record { name = name; bytes = bytes }

leads_weaker : (course other : Course) → ((files : List PlainFile) (deed : Deed) → course files deed → other files deed) → (files : List PlainFile) (deed : Deed) → Leads course files deed → Leads other files deed
leads_weaker course other sub [] deed l = sub [] deed l
leads_weaker course other sub (file ∷ files) deed l =
    (sub [] (reads file.name) l.0, leads_weaker (λ more. course (file ∷ more)) (λ more. other (file ∷ more)) (λ more x h. sub (file ∷ more) x h) files deed l.1)

module _ (held : Lookup) where
  -- a course that another has part in
  pub weaker : (course other : Course) → ((files : List PlainFile) (deed : Deed) → course files deed → other files deed) → Concludes course held → Concludes other held
  weaker course other sub ends say read = ends (λ what comes. say what (lifted (says what) comes)) (λ name comes none. read name (lifted (reads name) comes) none)
    where
      lifted : (deed : Deed) → ComesOver course held deed → ComesOver other held deed
      lifted deed comes = record { files = comes.files; are_held = comes.are_held; leads = leads_weaker course other sub comes.files deed comes.leads }

  pub says_so : (course : Course) (what : Saying) → course [] (says what) → Concludes course held
  says_so course what h say read = say what (record { files = []; are_held = All-nil (λ f. held f.name ≡ Some f.bytes); leads = h })

  pub reads_next : (course : Course) (name : List ℕ) → course [] (reads name) → ((bytes : List ℕ) → held name ≡ Some bytes → Concludes (λ more. course (file_with name bytes ∷ more)) held) → Concludes course held
  reads_next course name h next say read = by (held name) refl
    where
      fronted : (bytes : List ℕ) → held name ≡ Some bytes → (deed : Deed) → ComesOver (λ more. course (file_with name bytes ∷ more)) held deed → ComesOver course held deed
      fronted bytes e deed comes = record {
        files = file_with name bytes ∷ comes.files;
        are_held = All-cons (λ (f : PlainFile). held f.name ≡ Some f.bytes) (file_with name bytes) comes.files e comes.are_held;
        leads = (h, comes.leads);
      }

      by : (found : Option (List ℕ)) → held name ≡ found → ⊥
      by None e = read name (record { files = []; are_held = All-nil (λ f. held f.name ≡ Some f.bytes); leads = h }) e
      by (Some bytes) e = next bytes e (λ what comes. say what (fronted bytes e (says what) comes)) (λ other comes none. read other (fronted bytes e (reads other) comes) none)

  pub unless_concludes : (so : Bool) (what : Saying) (Then : Course) → Concludes Then held → Concludes (Unless so what Then) held
  unless_concludes true what Then ends = weaker Then (Unless true what Then) (λ files deed h. h) ends
  unless_concludes false what Then ends = says_so (Unless false what Then) what refl

  pub fit_concludes : {Fit : Type 0} (Fits : Fit → Type 0) (Then : Fit → Course) → ((fit : Fit) → Fits fit → Concludes (Then fit) held) → Concludes (WithFit Fits Then) held
  fit_concludes Fits Then ends say read =
      says_so (WithFit Fits Then) usage (inr ((λ fit is. weaker (Then fit) (WithFit Fits Then) (λ files deed h. inl (fit, is, h)) (ends fit is) say read), refl)) say read

  pub files_conclude : (names : List (List ℕ)) (Then : List PlainFile → Course) → ((sources : List PlainFile) → length sources ≡ length names → Concludes (Then sources) held) → Concludes (WithFiles names Then) held
  files_conclude [] Then ends = weaker (Then []) (WithFiles [] Then) (λ files deed h. h) (ends [] refl)
  files_conclude (name ∷ names) Then ends =
      reads_next (WithFiles (name ∷ names) Then) name refl (λ bytes e. by bytes (cases_lt longest_file (length bytes)) (files_conclude names (λ sources. Then (file_with name bytes ∷ sources)) (λ sources same. ends (file_with name bytes ∷ sources) (ap suc same))))
    where
      by : (bytes : List ℕ) → (longest_file < length bytes) ⊎ (length bytes ≤ longest_file) → Concludes (WithFiles names (λ sources. Then (file_with name bytes ∷ sources))) held → Concludes (λ more. WithFiles (name ∷ names) Then (file_with name bytes ∷ more)) held
      by bytes (inl long) rest = says_so (λ more. WithFiles (name ∷ names) Then (file_with name bytes ∷ more)) (bad_project (size name)) (inl (long, refl))
      by bytes (inr short) rest =
          weaker (WithFiles names (λ sources. Then (file_with name bytes ∷ sources))) (λ more. WithFiles (name ∷ names) Then (file_with name bytes ∷ more)) (λ files deed h. inr (short, h)) rest

  pub project_concludes : NoFileIsLeftOut → Global → (name : List ℕ) (Then : PlainProject → Course) → ((project : PlainProject) (bytes : List ℕ) → IsProject name bytes project → Concludes (Then project) held) → Concludes (WithProject name Then) held
  project_concludes law alloc name Then ends =
      reads_next (WithProject name Then) name refl
      (λ bytes e say read.
      law alloc name bytes
      (λ project is. weaker (Then project) (λ more. WithProject name Then (file_with name bytes ∷ more)) (λ files deed h. inr (project, is, h)) (ends project bytes is) say read)
      (λ fault first. says_so (λ more. WithProject name Then (file_with name bytes ∷ more)) (bad_project fault) (inl (fault, first, refl)) say read))

  -- several commands: the words ask for nothing, or for something that one of them comes to
  pub words_conclude : {Which : Type 0} (commands : Which → Command) → ((which : Which) (query : (commands which).Query) → Concludes ((commands which).Does query) held) → (words : List (List ℕ)) → Concludes (CourseOf commands words) held
  words_conclude commands ends words say read =
      says_so (CourseOf commands words) usage
      (inr ((λ which query asked. weaker ((commands which).Does query) (CourseOf commands words) (λ files deed h. inl (which, query, asked, h)) (ends which query) say read), refl))
      say read

-- a store's own files
pub over_store : (course : Course) (store : StoreState) → Concludes course store.file → ComesToSomething course store
over_store course store ends say read = ends (λ what comes. say what (there (says what) comes)) (λ name comes none. read name (there (reads name) comes) none)
  where
    there : (deed : Deed) → ComesOver course store.file deed → Comes course store deed
    there deed comes = record {
      files = comes.files;
      are_there = All-weaker (λ (f : PlainFile). store.file f.name ≡ Some f.bytes) (IsThere store) (λ f h tells. h) comes.files comes.are_held;
      leads = comes.leads;
    }
