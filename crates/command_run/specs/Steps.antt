-- Models of what the code holds: no part of what the command means.
use Rattle.std.specs.Prelude.{◌≡◌, ℕ, Bool, true, List, [], ◌∷◌, map, option_map, Result, Ok, Err, ⊤}
use Rattle.cond_formula.specs.Features.{has}
use Rattle.project_file.specs.Projects.{PlainProject}
use Rattle.project_program.specs.declared.programs.ProgramError.{ProgramError}
use Rattle.project_program.specs.declared.programs.ProgramError.TheVariants as error
use Rattle.command_promises.specs.declared.said.Said.{Said}
use Rattle.command_promises.specs.declared.said.Stop.{Stop}
use Rattle.command_promises.specs.declared.said.Stop.TheVariants.{ReadFault, WantOfMemory}
use Rattle.command_promises.specs.Courses.{Saying}
use Rattle.command_promises.specs.Sayings.{saying, tells}
use Rattle.command_projects.specs.Products.{on_by, are_features}
use Rattle.command_run.specs.declared.words.RunTexts.{RunTexts}
use Rattle.command_run.specs.declared.words.RunWords.{RunWords}
use Rattle.command_run.specs.Words.{RunQuery}
use Rattle.command_run.specs.Run.{not_accepted, run_text}

-- the further words
abbrev pub texts_of : RunTexts → List (List ℕ)
texts_of t = t.project.now ∷ t.names.now ∷ t.bound.now ∷ t.input.now ∷ []

-- the run that the words ask for
abbrev pub run_of : RunWords → RunQuery
run_of q = record {
  project = q.project.now;
  names = map (λ name. name.items) q.names.items;
  bound = q.bound;
  input = option_map (λ name. name.now) q.input;
}

-- the words fit the project, and this is the configuration that they name
pub record IsConfiguration (q : RunQuery) (project : PlainProject) (c : List Bool) : Type 0 where
  pub fits : are_features project.features q.names ≡ true
  pub on : (number : ℕ) → has c number ≡ on_by project.features q.names number

abbrev pub puts_out : ℕ → List ℕ → List ℕ → Saying
puts_out status output how = tells status (run_text output how)

-- why there is no program is said, unless memory ended
abbrev pub Refuses : ProgramError → Result Said Stop → Type 0
Refuses (error.NotAccepted stage) (Ok said) = saying said ≡ not_accepted stage
Refuses (error.NotAccepted stage) (Err ReadFault) = ⊥
Refuses (error.NotAccepted stage) (Err WantOfMemory) = ⊤
Refuses error.Memory said = said ≡ Err WantOfMemory
