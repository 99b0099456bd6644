-- One run, and one thing that is said of it.
use Rattle.std.proofs.Common.{◌≡◌, inl, inr, ℕ, Bool, List, refl, sym, ◌∙◌, ap, subst, arith}
use Rattle.text_edits.specs.Files.{PlainFile}
use Rattle.cond_formula.specs.Conditions.{value}
use Rattle.core_meaning.specs.Program.{PlainProgram}
use Rattle.core_meaning.specs.Run as meaning
use Rattle.project_file.specs.Projects.{PlainProject}
use Rattle.project_file.specs.Faults.{Fault}
use Rattle.project_file.specs.Laws.{Alike}
use Rattle.project_store.specs.Reads.{names_of}
use Rattle.project_program.specs.declared.programs.Stage.{Stage}
use Rattle.project_program.specs.Programs.{IsProgram, IsRefusedAt}
use Rattle.project_program.specs.Laws.{ProgramsAreOne}
use Rattle.project_program.proofs.AlikeProjects.{program_alike, refused_alike}
use Rattle.command_promises.specs.Courses.{Saying, says, Agree}
use Rattle.command_promises.specs.Sayings.{tells, usage}
use Rattle.command_promises.specs.Commands.{IsFit, IsDecidedCommand}
use Rattle.command_promises.proofs.Leading.{one_saying}
use Rattle.command_promises.proofs.Fitting.{tells_fits}
use Rattle.command_projects.specs.Faults.{bad_project}
use Rattle.command_projects.specs.Products.{on_by, are_features, admits_named, not_admitted}
use Rattle.command_projects.specs.Projects.{WithFiles}
use Rattle.command_projects.proofs.Decided.{ProjectLaws, names_alike, project_decided, fits_agree, files_agree, unless_agree, project_says, fit_says, files_say, unless_says}
use Rattle.command_run.specs.Words.{RunQuery}
use Rattle.command_run.specs.Run.{HasFeatures, not_accepted, answers, input_names, input_of, OfProduct, OfConfiguration, OfInputs, OfFiles, OfProject, run}
use Rattle.command_run.proofs.RunWords.{one_run}

module _ (laws : ProgramsAreOne) where
  product_agree : (q : RunQuery) (a b : PlainProject) → Alike a b → (sources : List PlainFile) (input : List ℕ) → Agree (OfProduct q a sources input) (OfProduct q b sources input)
  product_agree q a b like sources input files c d = by
    where
      on_a : ℕ → Bool
      on_a = on_by a.features q.names

      on_b : ℕ → Bool
      on_b = on_by b.features q.names

      on : on_by a.features q.names ≡ on_by b.features q.names
      on = ap (λ features. on_by features q.names) like.features

      program_there : (p : PlainProgram) → IsProgram a sources (on_by a.features q.names) p → IsProgram b sources (on_by b.features q.names) p
      program_there p h = subst (λ on. IsProgram b sources on p) on (program_alike a b sources (on_by a.features q.names) like p h)

      refused_there : (stage : Stage) → IsRefusedAt a sources (on_by a.features q.names) stage → IsRefusedAt b sources (on_by b.features q.names) stage
      refused_there stage h = subst (λ on. IsRefusedAt b sources on stage) on (refused_alike a b sources (on_by a.features q.names) like stage h)

      by : OfProduct q a sources input files c → OfProduct q b sources input files d → c ≡ d
      by (inl h) (inl k) =
          h.2 ∙ (ap (λ p. says (answers (meaning.run p input q.bound))) (laws.one_program b sources (on_by b.features q.names) h.0 k.0 (program_there h.0 h.1) k.1) ∙ sym k.2)
      by (inl h) (inr k) = absurd (laws.not_both b sources (on_by b.features q.names) h.0 k.0 (program_there h.0 h.1) k.1)
      by (inr h) (inl k) = absurd (laws.not_both b sources (on_by b.features q.names) k.0 h.0 k.1 (refused_there h.0 h.1))
      by (inr h) (inr k) = h.2 ∙ (ap (λ stage. says (not_accepted stage)) (laws.one_stage b sources (on_by b.features q.names) h.0 k.0 (refused_there h.0 h.1) k.1) ∙ sym k.2)

  configuration_agree : (q : RunQuery) (a b : PlainProject) → Alike a b → (sources : List PlainFile) (input : List ℕ) → Agree (OfConfiguration q a sources input) (OfConfiguration q b sources input)
  configuration_agree q a b like sources input =
      let on : on_by a.features q.names ≡ on_by b.features q.names = ap (λ features. on_by features q.names) like.features in
      let admitted : admits_named a q.names ≡ admits_named b q.names = like.model (on_by a.features q.names) ∙ ap (λ on. value on b.model) on in
      unless_agree (admits_named a q.names) (admits_named b q.names) not_admitted (OfProduct q a sources input) (OfProduct q b sources input) admitted (product_agree q a b like sources input)

  files_of_agree : (q : RunQuery) (a b : PlainProject) → Alike a b → Agree (OfFiles q a) (OfFiles q b)
  files_of_agree q a b like =
      files_agree (names_of a) (names_of b) (λ sources. WithFiles (input_names q.input) (OfInputs q a sources)) (λ sources. WithFiles (input_names q.input) (OfInputs q b sources)) (names_alike a b like)
      (λ sources. files_agree (input_names q.input) (input_names q.input) (OfInputs q a sources) (OfInputs q b sources) refl (λ inputs. configuration_agree q a b like sources (input_of inputs)))

  agree : (q : RunQuery) (a b : PlainProject) → Alike a b → Agree (OfProject q a) (OfProject q b)
  agree q a b like =
      fits_agree (HasFeatures q a) (HasFeatures q b) (λ fit. OfFiles q a) (λ fit. OfFiles q b)
      (λ x h. (x, ap (λ features. are_features features q.names) (sym like.features) ∙ h))
      (λ x h. (x, ap (λ features. are_features features q.names) like.features ∙ h))
      (λ x y h k. files_of_agree q a b like)

-- ---- what is said fits the command

abbrev Fit : Saying → Type 0
Fit = IsFit run

useless_fits : Fit usage
useless_fits = tells_fits run 2 usage.report (1, omega arith, refl) (inl (omega arith))

refused_fits : (report : List ℕ) → Fit (tells 9 report)
refused_fits report = tells_fits run 9 report (3, omega arith, refl) (inr (inr (omega arith)))

fault_fits : (fault : Fault) → Fit (bad_project fault)
fault_fits fault = tells_fits run 5 (bad_project fault).report (2, omega arith, refl) (inr (inl refl))

answer_fits : (answer : meaning.Answer) → Fit (answers answer)
answer_fits (meaning.Ended output status) = tells_fits run 0 (answers (meaning.Ended output status)).report (0, omega arith, refl) (inl (omega arith))
answer_fits (meaning.Undefined output) = tells_fits run 10 (answers (meaning.Undefined output)).report (4, omega arith, refl) (inr (inr (omega arith)))
answer_fits (meaning.Running output) = tells_fits run 11 (answers (meaning.Running output)).report (5, omega arith, refl) (inr (inr (omega arith)))

product_fits : (q : RunQuery) (project : PlainProject) (sources : List PlainFile) (input : List ℕ) (files : List PlainFile) (what : Saying) → OfProduct q project sources input files (says what) → Fit what
product_fits q project sources input files what (inl h) =
    let x = answers (meaning.run h.0 input q.bound) in subst Fit (sym (one_saying what x h.2)) (answer_fits (meaning.run h.0 input q.bound))
product_fits q project sources input files what (inr h) = subst Fit (sym (one_saying what (not_accepted h.0) h.2)) (refused_fits (not_accepted h.0).report)

inputs_fit : (q : RunQuery) (project : PlainProject) (sources inputs files : List PlainFile) (what : Saying) → OfInputs q project sources inputs files (says what) → Fit what
inputs_fit q project sources inputs =
    unless_says Fit fault_fits (admits_named project q.names) not_admitted (OfProduct q project sources (input_of inputs)) (refused_fits not_admitted.report)
    (product_fits q project sources (input_of inputs))

files_fit : (q : RunQuery) (project : PlainProject) (files : List PlainFile) (what : Saying) → OfFiles q project files (says what) → Fit what
files_fit q project =
    files_say Fit fault_fits (names_of project) (λ sources. WithFiles (input_names q.input) (OfInputs q project sources))
    (λ sources. files_say Fit fault_fits (input_names q.input) (OfInputs q project sources) (inputs_fit q project sources))

pub decided : ProjectLaws → ProgramsAreOne → IsDecidedCommand run
decided laws one = record {
  one_query = one_run;
  one_deed = λ q. project_decided laws q.project (OfProject q) (agree one q);
  fits = λ q. project_says Fit fault_fits q.project (OfProject q)
      (λ project. fit_says Fit fault_fits (HasFeatures q project) (λ fit. OfFiles q project) useless_fits (λ fit. files_fit q project));
}
