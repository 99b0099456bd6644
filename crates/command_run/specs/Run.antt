-- The command `run PROJECT NAMES BOUND INPUT`: the run of one product, with an input and up to a bound.
use Rattle.std.specs.Prelude.{◌≡◌, ◌⊎◌, ℕ, true, false, List, [], ◌∷◌, ◌++◌, codes, Option, Some, None}
use Rattle.std.specs.Fmt.{signed_decimal}
use Rattle.text_edits.specs.Files.{PlainFile}
use Rattle.core_meaning.specs.Program.{PlainProgram}
use Rattle.core_meaning.specs.Run as meaning
use Rattle.project_file.specs.Projects.{PlainProject}
use Rattle.project_store.specs.Reads.{names_of}
use Rattle.project_program.specs.declared.programs.Stage.{Stage}
use Rattle.project_program.specs.Programs.{stage_name, IsProgram, IsRefusedAt}
use Rattle.command_promises.specs.Courses.{Saying, says, Course}
use Rattle.command_promises.specs.Sayings.{line, tells}
use Rattle.command_promises.specs.Commands.{Command}
use Rattle.command_projects.specs.Products.{on_by, are_features, admits_named, not_admitted}
use Rattle.command_projects.specs.Projects.{WithProject, WithFit, WithFiles, Unless}
use Rattle.command_run.specs.Words.{RunQuery, Asks}

-- the words fit the project: all the names are those of features
abbrev pub HasFeatures : RunQuery → PlainProject → Unit {0} → Type 0
HasFeatures q project fit = are_features project.features q.names ≡ true

abbrev pub not_accepted : Stage → Saying
not_accepted stage = tells 9 (line (codes "not accepted " ++ stage_name stage))

-- what a run put out, on a line of its own, and how it went on the next
abbrev pub run_text : List ℕ → List ℕ → List ℕ
run_text output how = line output ++ line how

abbrev pub answers : meaning.Answer → Saying
answers (meaning.Ended output status) = tells 0 (run_text output (codes "ended " ++ signed_decimal status))
answers (meaning.Undefined output) = tells 10 (run_text output (codes "undefined"))
answers (meaning.Running output) = tells 11 (run_text output (codes "running"))

-- the names of the files that are the input: one, or none
abbrev pub input_names : Option (List ℕ) → List (List ℕ)
input_names None = []
input_names (Some name) = name ∷ []

-- the bytes of the input
abbrev pub input_of : List PlainFile → List ℕ
input_of [] = []
input_of (file ∷ files) = file.bytes

-- the configuration has a program, whose run is said, or a stage of translation refuses it
abbrev pub OfProduct : RunQuery → PlainProject → List PlainFile → List ℕ → Course
OfProduct q project sources input files deed =
    ((program : PlainProgram) × IsProgram project sources (on_by project.features q.names) program
    × (deed ≡ says (answers (meaning.run program input q.bound))))
    ⊎ ((stage : Stage) × IsRefusedAt project sources (on_by project.features q.names) stage × (deed ≡ says (not_accepted stage)))

-- the same, where the project admits the configuration
abbrev pub OfConfiguration : RunQuery → PlainProject → List PlainFile → List ℕ → Course
OfConfiguration q project sources input = Unless (admits_named project q.names) not_admitted (OfProduct q project sources input)

abbrev pub OfInputs : RunQuery → PlainProject → List PlainFile → List PlainFile → Course
OfInputs q project sources inputs = OfConfiguration q project sources (input_of inputs)

-- the project's files are read, and then the input
abbrev pub OfFiles : RunQuery → PlainProject → Course
OfFiles q project = WithFiles (names_of project) (λ sources. WithFiles (input_names q.input) (OfInputs q project sources))

-- the words are held against the project, and its files and the input are read
abbrev pub OfProject : RunQuery → PlainProject → Course
OfProject q project = WithFit (HasFeatures q project) (λ fit. OfFiles q project)

-- the project file is read first
abbrev pub Does : RunQuery → Course
Does q = WithProject q.project (OfProject q)

abbrev pub run : Command
run = record { word = codes "run"; Query = RunQuery; Asks = Asks; Does = Does; statuses = 0 ∷ 2 ∷ 5 ∷ 9 ∷ 10 ∷ 11 ∷ []; writes = false }
