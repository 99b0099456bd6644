-- A lawful command that refactors does one thing at most.
use Rattle.std.proofs.Common.{◌≡◌, inl, inr, ℕ, not, List, [], ◌∷◌, refl, sym, ◌∙◌, ap, subst, arith}
use Rattle.text_edits.specs.Files.{PlainFile}
use Rattle.cond_formula.specs.Features.{has}
use Rattle.project_file.specs.Projects.{PlainProject, names_on}
use Rattle.project_file.specs.Faults.{Fault}
use Rattle.project_file.specs.Laws.{Alike}
use Rattle.project_store.specs.Reads.{names_of}
use Rattle.command_promises.specs.Courses.{Saying, reads, says, Course, Agree, IsDecided}
use Rattle.command_promises.specs.Sayings.{usage}
use Rattle.command_promises.specs.Commands.{IsFit, IsDecidedCommand}
use Rattle.command_promises.proofs.Fitting.{tells_fits}
use Rattle.command_promises.proofs.Leading.{one_saying}
use Rattle.command_projects.specs.Faults.{bad_project}
use Rattle.command_projects.specs.Projects.{WithFiles, Unless}
use Rattle.command_projects.proofs.Decided.{ProjectLaws, alike_back, project_decided, names_alike, fits_agree, files_agree, unless_agree, project_says, fit_says, files_say, unless_says}
use Rattle.command_projects.proofs.Least.{admitted_alike, admitted_back, one_least}
use Rattle.project_refactorings.specs.Refactorings.{WithProjectText, RefactoringCommand, nothing_there, refused_at, refactored, Asking, Refactors, CourseOn, command_of}
use Rattle.project_refactorings.specs.Lawful.{AreReadings, IsLawful}

-- ---- the project file, whose text goes on too

pub text_decided : ProjectLaws → (name : List ℕ) (Then : PlainFile → PlainProject → Course) → ((source : PlainFile) (a b : PlainProject) → Alike a b → Agree (Then source a) (Then source b)) → IsDecided (WithProjectText name Then)
text_decided laws name Then agree [] a b h k = h ∙ sym k
text_decided laws name Then agree (source ∷ files) a b h k = project_decided laws name (Then source) (agree source) (source ∷ files) a b h k

module _ (P : Saying → Type 0) (faulty : (fault : Fault) → P (bad_project fault)) where
  no_read : (x : Saying) (name : List ℕ) → says x ≡ reads name → ⊥
  no_read x name e = cc

  pub text_says : (name : List ℕ) (Then : PlainFile → PlainProject → Course) → ((source : PlainFile) (project : PlainProject) (files : List PlainFile) (what : Saying) → Then source project files (says what) → P what)
      → (files : List PlainFile) (what : Saying) → WithProjectText name Then files (says what) → P what
  text_says name Then then_says [] what h = absurd (no_read what name h)
  text_says name Then then_says (source ∷ files) what h = project_says P faulty name (Then source) (then_says source) (source ∷ files) what h

module _ (command : RefactoringCommand) where
  -- ---- two readings of a project file

  module _ (lawful : IsLawful command) (q : command.Query) (source : PlainFile) (a b : PlainProject) (x y : command.Fit) (are : AreReadings command q a b x y) (sources : List PlainFile) where
    back : AreReadings command q b a y x
    back = record { alike = alike_back a b are.alike; one = are.other; other = are.one }

    abbrev AskingOf : PlainProject → command.Task → List (List ℕ) → Course
    AskingOf project task names = Asking command q source project sources task names

    asking_agree : (task : command.Task) → command.IsTask q a x sources task → command.IsTask q b y sources task → (names : List (List ℕ)) → Agree (AskingOf a task names) (AskingOf b task names)
    asking_agree task t u [] files d e h k = h ∙ sym k
    asking_agree task t u (name ∷ names) files d e (inl h) (inl k) =
        let on : has h.0 ≡ has k.0 =
        one_least a b are.alike (command.Breaks q a sources task name) (command.Breaks q b sources task name) h.0 k.0
        (lawful.breaks_alike q a b x y are sources task t u name) (lawful.breaks_alike q b a y x back sources task u t name) h.1 k.1 in
        h.2 ∙ (ap (λ on. says (refused_at name (names_on on a.features))) on ∙ (ap (λ features. says (refused_at name (names_on (has k.0) features))) are.alike.features ∙ sym k.2))
    asking_agree task t u (name ∷ names) files d e (inl h) (inr k) =
        absurd (k.0 h.0 (admitted_alike a b are.alike h.0 h.1.admitted) (lawful.breaks_alike q a b x y are sources task t u name h.0 h.1.holds))
    asking_agree task t u (name ∷ names) files d e (inr h) (inl k) =
        absurd (h.0 k.0 (admitted_back a b are.alike k.0 k.1.admitted) (lawful.breaks_alike q b a y x back sources task u t name k.0 k.1.holds))
    asking_agree task t u (name ∷ names) files d e (inr h) (inr k) = asking_agree task t u names files d e h.1 k.1

    abbrev OfTask : PlainProject → command.Task → Course
    OfTask project task = Unless (not (command.is_new_name_old q task)) usage (AskingOf project task command.preconditions)

    tasks_agree : (t u : command.Task) → t ≡ u → command.IsTask q a x sources t → command.IsTask q b y sources u → Agree (OfTask a t) (OfTask b u)
    tasks_agree t u same h k =
        subst (λ v. Agree (OfTask a t) (OfTask b v)) same
        (unless_agree (not (command.is_new_name_old q t)) (not (command.is_new_name_old q t)) usage (AskingOf a t command.preconditions) (AskingOf b t command.preconditions) refl
        (asking_agree t h (subst (λ v. command.IsTask q b y sources v) (sym same) k) command.preconditions))

    pub refactors_agree : Agree (Refactors command q source a x sources) (Refactors command q source b y sources)
    refactors_agree files d e (inl h) (inl k) = h.1 ∙ sym k.1
    refactors_agree files d e (inl h) (inr k) =
        let w = k.0 in absurd (h.0 w.witness (admitted_back a b are.alike w.witness w.admitted) (lawful.finds_alike q b a y x back sources w.witness w.holds))
    refactors_agree files d e (inr h) (inl k) =
        let w = h.0 in absurd (k.0 w.witness (admitted_alike a b are.alike w.witness w.admitted) (lawful.finds_alike q a b x y are sources w.witness w.holds))
    refactors_agree files d e (inr h) (inr k) =
        tasks_agree h.1 k.1 (lawful.one_task q a b x y are sources h.1 k.1 h.2 k.2) h.2 k.2 files d e h.3 k.3

  course_agrees : IsLawful command → (q : command.Query) (source : PlainFile) (a b : PlainProject) → Alike a b → Agree (CourseOn command q source a) (CourseOn command q source b)
  course_agrees lawful q source a b alike =
      fits_agree (command.Fits q a) (command.Fits q b)
      (λ fit. WithFiles (names_of a) (Refactors command q source a fit))
      (λ fit. WithFiles (names_of b) (Refactors command q source b fit))
      (λ x h. lawful.fits_alike q a b x alike h) (λ x h. lawful.fits_alike q b a x (alike_back a b alike) h)
      (λ x y h k. files_agree (names_of a) (names_of b) (Refactors command q source a x) (Refactors command q source b y) (names_alike a b alike)
      (refactors_agree lawful q source a b x y (record { alike = alike; one = h; other = k })))

  -- ---- what is said fits the command

  abbrev Fit : Saying → Type 0
  Fit = IsFit (command_of command)

  nothing_fits : Fit nothing_there
  nothing_fits = tells_fits (command_of command) 8 nothing_there.report (4, omega arith, refl) (inr (inr (omega arith)))

  useless_fits : Fit usage
  useless_fits = tells_fits (command_of command) 2 usage.report (2, omega arith, refl) (inl (omega arith))

  refused_fits : (name : List ℕ) (names : List (List ℕ)) → Fit (refused_at name names)
  refused_fits name names = tells_fits (command_of command) 1 (refused_at name names).report (1, omega arith, refl) (inl (omega arith))

  fault_fits : (fault : Fault) → Fit (bad_project fault)
  fault_fits fault = tells_fits (command_of command) 5 (bad_project fault).report (3, omega arith, refl) (inr (inl refl))

  module _ (q : command.Query) (source : PlainFile) (project : PlainProject) where
    refactored_fits : (sources : List PlainFile) (task : command.Task) → Fit (refactored command q source project sources task)
    refactored_fits sources task = record {
      listed = (0, omega arith, refl);
      own = (tells_fits (command_of command) 0 [] (0, omega arith, refl) (inl (omega arith))).own;
      writes = inr (refl, refl);
    }

    asking_fits : (sources : List PlainFile) (task : command.Task) (names : List (List ℕ)) (files : List PlainFile) (what : Saying) → Asking command q source project sources task names files (says what) → Fit what
    asking_fits sources task [] files what h = subst Fit (sym (one_saying what (refactored command q source project sources task) h)) (refactored_fits sources task)
    asking_fits sources task (name ∷ names) files what (inl h) =
        let on = names_on (has h.0) project.features in
        subst Fit (sym (one_saying what (refused_at name on) h.2)) (refused_fits name on)
    asking_fits sources task (name ∷ names) files what (inr h) = asking_fits sources task names files what h.1

    refactors_fits : (fit : command.Fit) (sources files : List PlainFile) (what : Saying) → Refactors command q source project fit sources files (says what) → Fit what
    refactors_fits fit sources files what (inl h) = subst Fit (sym (one_saying what nothing_there h.1)) nothing_fits
    refactors_fits fit sources files what (inr h) =
        unless_says Fit fault_fits (not (command.is_new_name_old q h.1)) usage (Asking command q source project sources h.1 command.preconditions) useless_fits
        (asking_fits sources h.1 command.preconditions) files what h.3

    course_fits : (files : List PlainFile) (what : Saying) → CourseOn command q source project files (says what) → Fit what
    course_fits =
        fit_says Fit fault_fits (command.Fits q project) (λ fit. WithFiles (names_of project) (Refactors command q source project fit)) useless_fits
        (λ fit. files_say Fit fault_fits (names_of project) (Refactors command q source project fit) (refactors_fits fit))

  pub refactoring_decided : ProjectLaws → IsLawful command → IsDecidedCommand (command_of command)
  refactoring_decided laws lawful = record {
    one_query = lawful.one_query;
    one_deed = λ q. text_decided laws (command.project_of q) (CourseOn command q) (course_agrees lawful q);
    fits = λ q. text_says Fit fault_fits (command.project_of q) (CourseOn command q) (course_fits q);
  }
