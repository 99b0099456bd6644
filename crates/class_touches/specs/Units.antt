-- Which of some units read one of the tokens, while the first so many are gone through.
use Rattle.std.specs.Prelude.{ℕ, Bool, List, Option, Any, Contains}
use Rattle.cond_formula.specs.Features.{has}
use Rattle.text_edits.specs.Files.{PlainFile}
use Rattle.project_file.specs.Projects.{PlainProject}
use Rattle.plain_pp.specs.Units.{sources_of, file_of}
use Rattle.program_occurrences.specs.Classes.{PlainFileToken}
use Rattle.class_touches.specs.Touches.{IsReadWhile}

-- one of these units reads one of the tokens
pub record IsReadInUnits (project : PlainProject) (files : List PlainFile) (tokens : List PlainFileToken) (name : Option (List ℕ)) (c : List Bool) (units : List ℕ) : Type 0 where
  pub unit : ℕ
  pub among : Contains units unit
  pub reads : Any (λ token. IsReadWhile (sources_of project files (has c)) (file_of project unit) token name) tokens
