-- The words of `tokens PROJECT UNIT NAMES`.
use Rattle.std.specs.Prelude.{◌≡◌, ℕ, true, false, List, [], ◌∷◌}
use Rattle.std.specs.List.{list_all}
use Rattle.c_names.specs.Names.{is_new_name}
use Rattle.c_names.specs.FileNames.{is_file_name}
use Rattle.c_text.specs.Directives.{has_repetition}
use Rattle.command_projects.specs.Names.{is_project_name, names_in}

-- a unit of a project in one configuration: the name of the project file, that of the unit's, and the names of the features
-- that are on
pub record UnitQuery : Type 0 where
  pub project : List ℕ
  pub unit : List ℕ
  pub names : List (List ℕ)

-- the names can be those of files and of features, and no feature is named twice
pub record IsGoodQuery (q : UnitQuery) : Type 0 where
  pub project : is_project_name q.project ≡ true
  pub unit : is_file_name q.unit ≡ true
  pub lawful : list_all is_new_name q.names ≡ true
  pub differ : has_repetition q.names ≡ false

-- the further words, `PROJECT UNIT NAMES`, ask for the tokens of this unit
pub record Asks (further : List (List ℕ)) (q : UnitQuery) : Type 0 where
  pub text : List ℕ
  pub words_are : further ≡ q.project ∷ q.unit ∷ text ∷ []
  pub names_are : q.names ≡ names_in text
  pub good : IsGoodQuery q
