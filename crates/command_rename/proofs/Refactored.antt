-- What is known where a command that refactors comes to say its result.
use Rattle.std.proofs.Common.{◌≡◌, ◌⊎◌, inl, inr, ℕ, suc, Bool, true, false, not, List, [], ◌∷◌, map, All, Some, refl, sym, ◌∙◌, ap, subst, arith}
use Rattle.std.specs.Prelude.{⊤}
use Rattle.std.proofs.lemmas.List.Elements.{All-nil, All-cons, All-head, All-tail}
use Rattle.text_edits.specs.Files.{PlainFile, Lookup}
use Rattle.cond_formula.specs.Features.{has}
use Rattle.project_file.specs.Projects.{PlainProject, IsProject, names_on}
use Rattle.project_file.specs.Faults.{size}
use Rattle.project_file.specs.Laws.{ProjectsAreAlike}
use Rattle.project_store.specs.Reads.{names_of}
use Rattle.command_promises.specs.Courses.{Saying, Deed, reads, says, Course, Leads}
use Rattle.command_promises.specs.Sayings.{usage}
use Rattle.command_promises.proofs.Leading.{done_last, one_saying}
use Rattle.command_projects.specs.Faults.{bad_project}
use Rattle.command_projects.specs.Projects.{WithFiles, Unless}
use Rattle.command_projects.specs.Least.{Nowhere}
use Rattle.command_projects.proofs.Decided.{names_alike}
use Rattle.command_outcomes.specs.Concluding.{ComesOver}
use Rattle.project_refactorings.specs.Refactorings.{RefactoringCommand, nothing_there, refused_at, refactored, Asking, Refactors, CourseOn, Does}

never : (x : Saying) (name : List ℕ) → says x ≡ reads name → ⊥
never x name e = cc

one_name : (m n : List ℕ) → reads m ≡ reads n → m ≡ n
one_name m n e = cc

-- what is said with another status isn't said with status 0
other_status : (what other : Saying) (status : ℕ) → says what ≡ says other → what.status ≡ 0 → other.status ≡ suc status → ⊥
other_status what other status e zero_is is =
    let same : what.status ≡ other.status = ap (λ (x : Saying). x.status) (one_saying what other e) in
    omega (arith, same, zero_is, is)

-- the file of this name is read behind these, where files of these names are
abbrev IsReadNext : List (List ℕ) → List PlainFile → List ℕ → Type 0
IsReadNext [] front name = ⊥
IsReadNext (n ∷ names) [] name = name ≡ n
IsReadNext (n ∷ names) (f ∷ front) name = IsReadNext names front name

-- the files have the first of these names
abbrev HaveFirst : List PlainFile → List (List ℕ) → Type 0
HaveFirst [] names = ⊤
HaveFirst (f ∷ files) [] = ⊥
HaveFirst (f ∷ files) (n ∷ names) = (f.name ≡ n) × HaveFirst files names

read_first : (files : List PlainFile) (course : Course) (names : List (List ℕ)) (deed : Deed)
    → ((front : List PlainFile) (name : List ℕ) → course front (reads name) → IsReadNext names front name) → Leads course files deed → HaveFirst files names
read_first [] course names deed next h = tt
read_first (f ∷ files) course [] deed next h = absurd (next [] f.name h.0)
read_first (f ∷ files) course (n ∷ names) deed next h =
    (next [] f.name h.0, read_first files (λ more. course (f ∷ more)) names deed (λ front name k. next (f ∷ front) name k) h.1)

files_read : (names : List (List ℕ)) (Then : List PlainFile → Course) (front : List PlainFile) (name : List ℕ)
    → ((sources more : List PlainFile) → Then sources more (reads name) → ⊥) → WithFiles names Then front (reads name) → IsReadNext names front name
files_read [] Then front name none h = none [] front h
files_read (n ∷ names) Then [] name none h = one_name name n h
files_read (n ∷ names) Then (f ∷ front) name none (inl h) = absurd (never (bad_project (size n)) name (sym h.1))
files_read (n ∷ names) Then (f ∷ front) name none (inr h) = files_read names (λ sources. Then (f ∷ sources)) front name (λ sources more k. none (f ∷ sources) more k) h.1

files_end : (names : List (List ℕ)) (Then : List PlainFile → Course) (files : List PlainFile) (what : Saying)
    → HaveFirst files names → what.status ≡ 0 → WithFiles names Then files (says what)
    → (map (λ (f : PlainFile). f.name) files ≡ names) × Then files [] (says what)
files_end [] Then [] what first zero_is h = (refl, h)
files_end [] Then (f ∷ files) what first zero_is h = absurd first
files_end (n ∷ names) Then [] what first zero_is h = absurd (never what n h)
files_end (n ∷ names) Then (f ∷ files) what first zero_is (inl h) = absurd (other_status what (bad_project (size n)) 4 h.1 zero_is refl)
files_end (n ∷ names) Then (f ∷ files) what first zero_is (inr h) =
    let rest = files_end names (λ sources. Then (f ∷ sources)) files what first.1 zero_is h.1 in
    (ap (λ ns. f.name ∷ ns) rest.0 ∙ ap (λ m. m ∷ names) first.0, rest.1)

-- one goes on, or something else is said
goes_on : (b : Bool) (other : Saying) (Then : Course) (files : List PlainFile) (deed : Deed) → Unless b other Then files deed → Then files deed ⊎ (deed ≡ says other)
goes_on true other Then files deed h = inl h
goes_on false other Then files deed h = inr h

module _ (command : RefactoringCommand) (q : command.Query) where
  -- The result of a task of a project that stands there, where no admitted configuration breaks a precondition, is what is said.
  pub record SaysResult (held : Lookup) (what : Saying) : Type 0 where
    pub source : PlainFile
    pub project : PlainProject
    pub fit : command.Fit
    pub sources : List PlainFile
    pub task : command.Task
    pub text : held source.name ≡ Some source.bytes
    pub source_name : source.name ≡ command.project_of q
    pub is_project : IsProject (command.project_of q) source.bytes project
    pub fits : command.Fits q project fit
    pub names : map (λ (f : PlainFile). f.name) sources ≡ names_of project
    pub stand : All (λ (f : PlainFile). held f.name ≡ Some f.bytes) sources
    pub is_task : command.IsTask q project fit sources task
    pub unhindered : All (λ name. Nowhere project (command.Breaks q project sources task name)) command.preconditions
    pub is_result : what ≡ refactored command q source project sources task

  module _ (source : PlainFile) (project : PlainProject) where
    asking_ends : (sources : List PlainFile) (task : command.Task) (names : List (List ℕ)) (files : List PlainFile) (what : Saying) → what.status ≡ 0
        → Asking command q source project sources task names files (says what)
        → All (λ name. Nowhere project (command.Breaks q project sources task name)) names × (what ≡ refactored command q source project sources task)
    asking_ends sources task [] files what zero_is h =
        (All-nil (λ name. Nowhere project (command.Breaks q project sources task name)), one_saying what (refactored command q source project sources task) h)
    asking_ends sources task (name ∷ names) files what zero_is (inl h) =
        absurd (other_status what (refused_at name (names_on (has h.0) project.features)) 0 h.2 zero_is refl)
    asking_ends sources task (name ∷ names) files what zero_is (inr h) =
        let rest = asking_ends sources task names files what zero_is h.1 in
        (All-cons (λ other. Nowhere project (command.Breaks q project sources task other)) name names h.0 rest.0, rest.1)

    asks_no_file : (sources : List PlainFile) (task : command.Task) (names : List (List ℕ)) (files : List PlainFile) (name : List ℕ)
        → Asking command q source project sources task names files (reads name) → ⊥
    asks_no_file sources task [] files name h = never (refactored command q source project sources task) name (sym h)
    asks_no_file sources task (first ∷ names) files name (inl h) = never (refused_at first (names_on (has h.0) project.features)) name (sym h.2)
    asks_no_file sources task (first ∷ names) files name (inr h) = asks_no_file sources task names files name h.1

    refactors_no_file : (fit : command.Fit) (sources files : List PlainFile) (name : List ℕ) → Refactors command q source project fit sources files (reads name) → ⊥
    refactors_no_file fit sources files name (inl h) = never nothing_there name (sym h.1)
    refactors_no_file fit sources files name (inr h) =
        by (goes_on (not (command.is_new_name_old q h.1)) usage (Asking command q source project sources h.1 command.preconditions) files (reads name) h.3)
      where
        by : Asking command q source project sources h.1 command.preconditions files (reads name) ⊎ (reads name ≡ says usage) → ⊥
        by (inl k) = asks_no_file sources h.1 command.preconditions files name k
        by (inr e) = never usage name (sym e)

    course_reads : (front : List PlainFile) (name : List ℕ) → CourseOn command q source project front (reads name) → IsReadNext (names_of project) front name
    course_reads front name (inl h) =
        files_read (names_of project) (Refactors command q source project h.0) front name (λ sources more k. refactors_no_file h.0 sources more name k) h.2
    course_reads front name (inr h) = absurd (never usage name (sym h.1))

  module _ (alike : ProjectsAreAlike) (held : Lookup) (source : PlainFile) (files : List PlainFile) (what : Saying) (is : held source.name ≡ Some source.bytes)
      (name_is : source.name ≡ command.project_of q) (are : All (λ (f : PlainFile). held f.name ≡ Some f.bytes) files) (zero_is : what.status ≡ 0) where
    module _ (project : PlainProject) (is_project : IsProject (command.project_of q) source.bytes project) where
      text_reads : (front : List PlainFile) (name : List ℕ) → Does command q (source ∷ front) (reads name) → IsReadNext (names_of project) front name
      text_reads front name (inl h) = absurd (never (bad_project h.0) name (sym h.2))
      text_reads front name (inr h) =
          subst (λ names. IsReadNext names front name) (names_alike h.0 project (alike (command.project_of q) source.bytes h.0 project h.1 is_project))
          (course_reads source h.0 front name h.2)

      refactors_ends : (fit : command.Fit) → command.Fits q project fit → map (λ (f : PlainFile). f.name) files ≡ names_of project
          → Refactors command q source project fit files [] (says what) → SaysResult held what
      refactors_ends fit fits names (inl h) = absurd (other_status what nothing_there 7 h.1 zero_is refl)
      refactors_ends fit fits names (inr h) =
          by (goes_on (not (command.is_new_name_old q h.1)) usage (Asking command q source project files h.1 command.preconditions) [] (says what) h.3)
        where
          by : Asking command q source project files h.1 command.preconditions [] (says what) ⊎ (says what ≡ says usage) → SaysResult held what
          by (inl k) =
              let asked = asking_ends source project files h.1 command.preconditions [] what zero_is k in
              record {
                source = source;
                project = project;
                fit = fit;
                sources = files;
                task = h.1;
                text = is;
                source_name = name_is;
                is_project = is_project;
                fits = fits;
                names = names;
                stand = are;
                is_task = h.2;
                unhindered = asked.0;
                is_result = asked.1;
              }
          by (inr e) = absurd (other_status what usage 1 e zero_is refl)

      course_ends : HaveFirst files (names_of project) → CourseOn command q source project files (says what) → SaysResult held what
      course_ends first (inl h) =
          let end = files_end (names_of project) (Refactors command q source project h.0) files what first zero_is h.2 in
          refactors_ends h.0 h.1 end.0 end.1
      course_ends first (inr h) = absurd (other_status what usage 1 h.1 zero_is refl)

    text_ends : Leads (λ more. Does command q (source ∷ more)) files (says what) → Does command q (source ∷ files) (says what) → SaysResult held what
    text_ends leads (inl h) = absurd (other_status what (bad_project h.0) 4 h.2 zero_is refl)
    text_ends leads (inr h) = course_ends h.0 h.1 (read_first files (λ more. Does command q (source ∷ more)) (names_of h.0) (says what) (text_reads h.0 h.1) leads) h.2

  by_files : ProjectsAreAlike → (held : Lookup) (files : List PlainFile) (what : Saying) → All (λ (f : PlainFile). held f.name ≡ Some f.bytes) files
      → Leads (Does command q) files (says what) → what.status ≡ 0 → SaysResult held what
  by_files alike held [] what are leads zero_is = absurd (never what (command.project_of q) leads)
  by_files alike held (source ∷ files) what are leads zero_is =
      let Stands : PlainFile → Type 0 = λ f. held f.name ≡ Some f.bytes in
      text_ends alike held source files what (All-head Stands source files are) (one_name source.name (command.project_of q) leads.0) (All-tail Stands source files are) zero_is leads.1
      (done_last (λ more. Does command q (source ∷ more)) files (says what) leads.1)

  pub says_result : ProjectsAreAlike → (held : Lookup) (what : Saying) → ComesOver (Does command q) held (says what) → what.status ≡ 0 → SaysResult held what
  says_result alike held what comes zero_is = by_files alike held comes.files what comes.are_held comes.leads zero_is
