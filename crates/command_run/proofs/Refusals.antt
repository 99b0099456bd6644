-- What is said of a configuration without a program.
use Rattle.std.proofs.Common.{◌≡◌, inr, ℕ, Bool, List, Result, Ok, Err, ap, sym, subst}
use mathlib.Core.Path.{fun_ext}
use Rattle.text_edits.specs.Files.{PlainFile}
use Rattle.project_file.specs.Projects.{PlainProject}
use Rattle.project_program.specs.declared.programs.ProgramError.{ProgramError}
use Rattle.project_program.specs.declared.programs.ProgramError.TheVariants as error
use Rattle.project_program.specs.Programs.{IsRefusedAt, WhyNone}
use Rattle.command_promises.specs.declared.said.Said.{Said}
use Rattle.command_promises.specs.declared.said.Stop.{Stop}
use Rattle.command_promises.specs.declared.said.Stop.TheVariants.{ReadFault, WantOfMemory}
use Rattle.command_promises.specs.Courses.{says}
use Rattle.command_promises.specs.Sayings.{SaysOrEnds}
use Rattle.command_projects.specs.Products.{on_by}
use Rattle.command_run.specs.Words.{RunQuery}
use Rattle.command_run.specs.Run.{OfProduct}
use Rattle.command_run.specs.Steps.{Refuses}

module _ (q : RunQuery) (project : PlainProject) (sources : List PlainFile) (input : List ℕ) (on : ℕ → Bool) where
  pub refused_said : (e : ProgramError) (came : Result Said Stop) → ((number : ℕ) → on number ≡ on_by project.features q.names number) → WhyNone project sources on e → Refuses e came → SaysOrEnds (OfProduct q project sources input) came
  refused_said (error.NotAccepted stage) (Ok said) same why h =
      inr (stage, subst (λ on. IsRefusedAt project sources on stage) (fun_ext same) why, ap (λ x. says x) h)
  refused_said (error.NotAccepted stage) (Err ReadFault) same why h = h
  refused_said (error.NotAccepted stage) (Err WantOfMemory) same why h = tt
  refused_said error.Memory came same why h = subst (SaysOrEnds (OfProduct q project sources input)) (sym h) tt
