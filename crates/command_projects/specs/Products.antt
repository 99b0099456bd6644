-- A configuration by the names of the features that are on.
use Rattle.std.specs.Prelude.{ℕ, Bool, List, [], codes, slice_index_or}
use Rattle.std.specs.List.{list_all, list_any}
use Rattle.std.specs.Str.{bytes_eq}
use Rattle.cond_formula.specs.Conditions.{value}
use Rattle.project_file.specs.Projects.{PlainProject}
use Rattle.command_promises.specs.Courses.{Saying}
use Rattle.command_promises.specs.Sayings.{line, tells}

-- whether a feature is one of those that are named
abbrev pub is_named : List (List ℕ) → List ℕ → Bool
is_named names feature = list_any (bytes_eq feature) names

-- whether the feature with this number is
abbrev pub on_by : List (List ℕ) → List (List ℕ) → ℕ → Bool
on_by features names number = is_named names (slice_index_or features number [])

-- all the names are those of features
abbrev pub are_features : List (List ℕ) → List (List ℕ) → Bool
are_features features names = list_all (λ name. list_any (bytes_eq name) features) names

-- whether the features that are named are a configuration that the project admits
abbrev pub admits_named : PlainProject → List (List ℕ) → Bool
admits_named project names = value (on_by project.features names) project.model

-- the project doesn't admit it
abbrev pub not_admitted : Saying
not_admitted = tells 9 (line (codes "not admitted"))
