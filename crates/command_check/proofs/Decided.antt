-- One outcome, and one thing that is said of it.
use Rattle.std.proofs.Common.{◌≡◌, ℕ, Bool, List, [], refl, sym, ◌∙◌, ap, subst, inl, inr, arith}
use Rattle.text_edits.specs.Files.{PlainFile}
use Rattle.cond_formula.specs.Features.{has}
use Rattle.project_file.specs.Projects.{PlainProject, names_on}
use Rattle.project_file.specs.Faults.{Fault}
use Rattle.project_file.specs.Laws.{Alike}
use Rattle.project_store.specs.Reads.{names_of}
use Rattle.project_program.specs.Programs.{IsRefusedAt}
use Rattle.project_program.specs.Laws.{ProgramsAreOne}
use Rattle.project_program.proofs.AlikeProjects.{program_alike, refused_alike}
use Rattle.project_check.specs.declared.outcomes.CheckOutcome.{CheckOutcome}
use Rattle.project_check.specs.declared.outcomes.CheckOutcome.TheVariants.{Accepted, Broken}
use Rattle.project_check.specs.Checked.{IsAccepted, IsBroken, IsChecked}
use Rattle.command_promises.specs.Courses.{Saying, says, Agree}
use Rattle.command_promises.specs.Commands.{IsFit, IsDecidedCommand}
use Rattle.command_promises.proofs.Leading.{one_saying}
use Rattle.command_promises.proofs.Fitting.{tells_fits}
use Rattle.command_projects.specs.Faults.{bad_project}
use Rattle.command_projects.proofs.Least.{admitted_alike, admitted_back, one_least}
use Rattle.command_projects.proofs.Decided.{ProjectLaws, one_project, alike_back, names_alike, project_decided, files_agree, project_says, files_say}
use Rattle.command_check.specs.Check.{accepted, broken, said_of, OfProducts, OfProject, check}

-- projects that are alike accept and refuse the same
module _ (a b : PlainProject) (alike : Alike a b) (sources : List PlainFile) where
  accepted_there : (c : List Bool) → IsAccepted a sources c → IsAccepted b sources c
  accepted_there c h = (h.0, program_alike a b sources (has c) alike h.0 h.1)

  broken_there : (c : List Bool) → IsBroken a sources c → IsBroken b sources c
  broken_there c h = (h.0, refused_alike a b sources (has c) alike h.0 h.1)

module _ (laws : ProgramsAreOne) (a b : PlainProject) (alike : Alike a b) where
  same_outcome : (sources : List PlainFile) (x y : CheckOutcome) → IsChecked a sources x → IsChecked b sources y → said_of a.features x ≡ said_of b.features y
  same_outcome sources Accepted Accepted h k = refl
  same_outcome sources Accepted (Broken d t) h k =
      let program = accepted_there a b alike sources d (h d (admitted_back a b alike d k.0.admitted)) in
      absurd (laws.not_both b sources (has d) program.0 t program.1 k.1)
  same_outcome sources (Broken c s) Accepted h k =
      let program = k c (admitted_alike a b alike c h.0.admitted) in
      absurd (laws.not_both b sources (has c) program.0 s program.1 (refused_alike a b sources (has c) alike s h.1))
  same_outcome sources (Broken c s) (Broken d t) h k =
      let on : has c ≡ has d = one_least a b alike (IsBroken a sources) (IsBroken b sources) c d (broken_there a b alike sources) (broken_there b a (alike_back a b alike) sources) h.0 k.0 in
      let refused : IsRefusedAt b sources (has d) s = subst (λ on. IsRefusedAt b sources on s) on (refused_alike a b sources (has c) alike s h.1) in
      let stage : s ≡ t = laws.one_stage b sources (has d) s t refused k.1 in
      ap (λ stage. broken stage (names_on (has c) a.features)) stage
      ∙ (ap (λ on. broken t (names_on on a.features)) on ∙ ap (λ names. broken t (names_on (has d) names)) alike.features)

  products_agree : (sources : List PlainFile) → Agree (OfProducts a sources) (OfProducts b sources)
  products_agree sources files x y h k = h.2 ∙ (ap (λ what. says what) (same_outcome sources h.0 k.0 h.1 k.1) ∙ sym k.2)

  agree : Agree (OfProject a) (OfProject b)
  agree = files_agree (names_of a) (names_of b) (OfProducts a) (OfProducts b) (names_alike a b alike) products_agree

-- ---- what is said fits the command

outcome_fits : (features : List (List ℕ)) (outcome : CheckOutcome) → IsFit check (said_of features outcome)
outcome_fits features Accepted = tells_fits check 0 accepted.report (0, omega arith, refl) (inl (omega arith))
outcome_fits features (Broken c stage) = tells_fits check 1 (broken stage (names_on (has c) features)).report (1, omega arith, refl) (inl (omega arith))

fault_fits : (fault : Fault) → IsFit check (bad_project fault)
fault_fits fault = tells_fits check 5 (bad_project fault).report (2, omega arith, refl) (inr (inl refl))

products_fit : (project : PlainProject) (sources files : List PlainFile) (what : Saying) → OfProducts project sources files (says what) → IsFit check what
products_fit project sources files what h =
    subst (IsFit check) (sym (one_saying what (said_of project.features h.0) h.2)) (outcome_fits project.features h.0)

pub decided : ProjectLaws → ProgramsAreOne → IsDecidedCommand check
decided laws one = record {
  one_query = one_project;
  one_deed = λ name. project_decided laws name OfProject (agree one);
  fits = λ name. project_says (IsFit check) fault_fits name OfProject (λ project. files_say (IsFit check) fault_fits (names_of project) (OfProducts project) (products_fit project));
}
