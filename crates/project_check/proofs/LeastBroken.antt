-- What becomes of the products of a project, by the least configuration that has no program.
use Rattle.std.proofs.Common.{◌≡◌, Bool, true, false, List, refl, subst}
use Rattle.text_edits.specs.Files.{PlainFile}
use Rattle.cond_formula.specs.Features.{has}
use Rattle.cond_formula.specs.Conditions.{Condition, value}
use Rattle.core_meaning.specs.Program.{PlainProgram}
use Rattle.project_file.specs.Projects.{PlainProject}
use Rattle.project_program.specs.declared.programs.Stage.{Stage}
use Rattle.project_program.specs.Programs.{IsProgram, IsRefusedAt}
use Rattle.project_program.specs.Laws.{ProgramsAreOne}
use Rattle.command_projects.specs.Least.{IsAdmitted, Nowhere, IsLeast}
use Rattle.project_questions.specs.Questions.{IsTrueIn}
use Rattle.project_check.specs.Broken.{TellsProgram}
use Rattle.project_check.specs.Checked.{IsAccepted, IsBroken}

module _ (one : ProgramsAreOne) (project : PlainProject) (files : List PlainFile) (f : Condition) (tells : (c : List Bool) → IsAdmitted project c → TellsProgram (value (has c) f) project files (has c)) where
  by-value : (c : List Bool) → (b : Bool) → value (has c) f ≡ b → IsAdmitted project c → TellsProgram b project files (has c)
  by-value c b e admitted = subst (λ b. TellsProgram b project files (has c)) e (tells c admitted)

  -- the formula is true in no admitted configuration
  pub all_accepted : Nowhere project (IsTrueIn f) → (c : List Bool) → IsAdmitted project c → IsAccepted project files c
  all_accepted none c admitted = by (value (has c) f) refl
    where
      by : (b : Bool) → value (has c) f ≡ b → IsAccepted project files c
      by true e = absurd (none c admitted e)
      by false e = by-value c false e admitted

  module _ (c : List Bool) (is : IsLeast project (IsTrueIn f) c) where
    pub no_program : (program : PlainProgram) → IsProgram project files (has c) program → ⊥
    no_program = by-value c true is.holds is.admitted

    -- what is broken has no program, so the formula is true there
    true_where_broken : (other : List Bool) → IsAdmitted project other → IsBroken project files other → IsTrueIn f other
    true_where_broken other admitted x = by (value (has other) f) refl
      where
        by : (b : Bool) → value (has other) f ≡ b → IsTrueIn f other
        by true e = e
        by false e = let some : IsAccepted project files other = by-value other false e admitted in absurd (one.not_both project files (has other) some.0 x.0 some.1 x.1)

    pub is_least : (stage : Stage) → IsRefusedAt project files (has c) stage → IsLeast project (IsBroken project files) c
    is_least stage refused = record {
      admitted = is.admitted;
      holds = (stage, refused);
      least = λ other admitted x. is.least other admitted (true_where_broken other admitted x);
    }
