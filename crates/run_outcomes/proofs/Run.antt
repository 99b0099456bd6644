-- `run` comes to something.
use Rattle.std.proofs.Common.{◌≡◌, inl, inr, ℕ, List, length, refl}
use Rattle.text_edits.specs.Files.{PlainFile, Lookup}
use Rattle.core_meaning.specs.Run as meaning
use Rattle.project_file.specs.Projects.{PlainProject}
use Rattle.project_store.specs.Reads.{names_of}
use Rattle.file_outcomes.specs.Laws.{NoFileIsLeftOut}
use Rattle.product_outcomes.specs.Laws.{NoProductIsLeftOut}
use Rattle.command_projects.specs.Products.{on_by, admits_named, not_admitted}
use Rattle.command_projects.specs.Projects.{WithFiles}
use Rattle.command_outcomes.specs.Concluding.{Concludes}
use Rattle.command_outcomes.proofs.Courses.{says_so, unless_concludes, fit_concludes, files_conclude, project_concludes}
use Rattle.command_run.specs.Words.{RunQuery}
use Rattle.command_run.specs.Run.{HasFeatures, not_accepted, answers, input_names, input_of, OfProduct, OfInputs, OfFiles, OfProject}
use Rattle.run_outcomes.specs.Laws.{RunConcludes}

module _ (files_law : NoFileIsLeftOut) (products_law : NoProductIsLeftOut) (held : Lookup) (q : RunQuery) (project : PlainProject) where
  product_ends : (sources : List PlainFile) → length sources ≡ length (names_of project) → (input : List ℕ) → Concludes (OfProduct q project sources input) held
  product_ends sources same input say read =
      products_law project sources (on_by project.features q.names) same
      (λ program is. says_so held (OfProduct q project sources input) (answers (meaning.run program input q.bound)) (inl (program, is, refl)) say read)
      (λ stage is. says_so held (OfProduct q project sources input) (not_accepted stage) (inr (stage, is, refl)) say read)

  inputs_end : (sources : List PlainFile) → length sources ≡ length (names_of project) → (inputs : List PlainFile) → Concludes (OfInputs q project sources inputs) held
  inputs_end sources same inputs =
      unless_concludes held (admits_named project q.names) not_admitted (OfProduct q project sources (input_of inputs)) (product_ends sources same (input_of inputs))

  files_end : Concludes (OfFiles q project) held
  files_end =
      files_conclude held (names_of project) (λ sources. WithFiles (input_names q.input) (OfInputs q project sources))
      (λ sources same. files_conclude held (input_names q.input) (OfInputs q project sources) (λ inputs read. inputs_end sources same inputs))

  project_ends : Concludes (OfProject q project) held
  project_ends = fit_concludes held (HasFeatures q project) (λ fit. OfFiles q project) (λ fit fits. files_end)

pub run_ends : NoFileIsLeftOut → NoProductIsLeftOut → RunConcludes
run_ends files_law products_law alloc q held =
    project_concludes held files_law alloc q.project (OfProject q) (λ project bytes is. project_ends files_law products_law held q project)
