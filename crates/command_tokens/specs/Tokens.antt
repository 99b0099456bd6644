-- The command `tokens PROJECT UNIT NAMES`: the tokens that preprocessing gives of a unit in one configuration.
use Rattle.std.specs.Prelude.{◌≡◌, ◌⊎◌, ℕ, ◌+◌, true, false, List, [], ◌∷◌, codes, if◌then◌else◌, Option, Some, None}
use Rattle.std.specs.List.{flat_map}
use Rattle.std.specs.Str.{bytes_eq}
use Rattle.text_edits.specs.Files.{PlainFile}
use Rattle.cond_formula.specs.Conditions.{value}
use Rattle.c_text.specs.Token.{PlainToken}
use Rattle.c_text.specs.Preprocessing.{Refusal, Sources, gives, is_refused, IsPreprocessed}
use Rattle.project_file.specs.Projects.{PlainUnit, PlainProject}
use Rattle.project_store.specs.Reads.{names_of}
use Rattle.plain_pp.specs.Units.{sources_of, file_of}
use Rattle.command_promises.specs.Courses.{Saying, says, Course}
use Rattle.command_promises.specs.Sayings.{line, tells}
use Rattle.command_promises.specs.Commands.{Command}
use Rattle.command_projects.specs.Products.{on_by, are_features, admits_named, not_admitted}
use Rattle.command_projects.specs.Projects.{WithProject, WithFit, WithFiles, Unless}
use Rattle.command_tokens.specs.Words.{UnitQuery, Asks}

-- a unit, and its number in the project
pub record NumberedUnit : Type 0 where
  pub number : ℕ
  pub unit : PlainUnit

abbrev pub numbered : ℕ → PlainUnit → NumberedUnit
numbered number unit = record { number = number; unit = unit }

-- the first unit in the file, where the units have the numbers from this one on
abbrev pub unit_from : ℕ → List ℕ → List PlainUnit → Option NumberedUnit
unit_from number file [] = None
unit_from number file (unit ∷ units) =
    if bytes_eq unit.file file then Some (numbered number unit) else unit_from (number + 1) file units

-- The words fit the project: this is the unit that they name, and all the names are those of features.
pub record FitsProject (q : UnitQuery) (project : PlainProject) (asked : NumberedUnit) : Type 0 where
  pub unit : unit_from 0 q.unit project.units ≡ Some asked
  pub known : are_features project.features q.names ≡ true

abbrev pub not_present : Saying
not_present = tells 9 (line (codes "not present"))

abbrev pub not_preprocessed : Saying
not_preprocessed = tells 9 (line (codes "not accepted preprocess"))

-- each token's spelling on a line
abbrev pub prints : List PlainToken → Saying
prints tokens = tells 0 (flat_map (λ token. line token.text) tokens)

-- the tokens of the unit are said, or that its preprocessing is refused
abbrev pub OfSources : Sources → ℕ → Course
OfSources sources number files deed =
    ((tokens : List PlainToken) × IsPreprocessed sources number (gives tokens) × (deed ≡ says (prints tokens)))
    ⊎ ((why : Refusal) × IsPreprocessed sources number (is_refused why) × (deed ≡ says not_preprocessed))

-- the same, where the project admits the configuration and the unit is present there
abbrev pub OfUnit : UnitQuery → PlainProject → NumberedUnit → List PlainFile → Course
OfUnit q project asked sources =
    Unless (admits_named project q.names) not_admitted (Unless (value (on_by project.features q.names) asked.unit.when) not_present
    (OfSources (sources_of project sources (on_by project.features q.names)) (file_of project asked.number)))

-- the words are held against the project, and its files are read
abbrev pub OfProject : UnitQuery → PlainProject → Course
OfProject q project = WithFit (FitsProject q project) (λ asked. WithFiles (names_of project) (OfUnit q project asked))

-- the project file is read first
abbrev pub Does : UnitQuery → Course
Does q = WithProject q.project (OfProject q)

abbrev pub tokens : Command
tokens = record { word = codes "tokens"; Query = UnitQuery; Asks = Asks; Does = Does; statuses = 0 ∷ 2 ∷ 5 ∷ 9 ∷ []; writes = false }
