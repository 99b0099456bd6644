-- Projects, and which files say them.
use Rattle.std.specs.Prelude.{◌≡◌, ◌≢◌, ℕ, ◌+◌, Bool, true, List, [], ◌∷◌, if◌then◌else◌, All, AllPairs, ⊤}
use Rattle.c_names.specs.Names.{is_new_name}
use Rattle.cond_formula.specs.Conditions.{Condition}
use Rattle.project_file.specs.Contents.{UnitText, Contents, SaysContents, files_of}
use Rattle.project_file.specs.Texts.{IsPresence, IsModelOf}

-- a unit's file, and the condition under which it is present
pub record PlainUnit : Type 0 where
  pub file : List ℕ
  pub when : Condition

-- A project as definitions see it. `model` is the condition under which a configuration is admitted.
pub record PlainProject : Type 0 where
  pub name : List ℕ
  pub features : List (List ℕ)
  pub model : Condition
  pub headers : List (List ℕ)
  pub units : List PlainUnit

-- the features that are on, in the project's order; this is the number of the first of them
abbrev pub names_from : ℕ → (ℕ → Bool) → List (List ℕ) → List (List ℕ)
names_from number on [] = []
names_from number on (name ∷ names) =
    if on number then name ∷ names_from (number + 1) on names else names_from (number + 1) on names

abbrev pub names_on : (ℕ → Bool) → List (List ℕ) → List (List ℕ)
names_on on names = names_from 0 on names

-- no two names are the same
abbrev pub AllDiffer : List (List ℕ) → Type 0
AllDiffer names = AllPairs (λ a b. a ≢ b) names

-- each feature has a lawful name
abbrev pub AreFeatureNames : List (List ℕ) → Type 0
AreFeatureNames names = All (λ name. is_new_name name ≡ true) names

-- no feature, and no file, is named twice
pub record NamesOnce (contents : Contents) : Type 0 where
  pub features : AllDiffer contents.features
  pub files : AllDiffer (files_of contents)

-- the units of a project are these, one by one
abbrev pub AreUnits : List (List ℕ) → List UnitText → List PlainUnit → Type 0
AreUnits names [] [] = ⊤
AreUnits names [] (unit ∷ units) = ⊥
AreUnits names (text ∷ texts) [] = ⊥
AreUnits names (text ∷ texts) (unit ∷ units) =
    (unit.file ≡ text.file) × IsPresence names text.when unit.when × AreUnits names texts units

-- the project of a file with this name that says this
pub record IsProjectOf (name : List ℕ) (contents : Contents) (project : PlainProject) : Type 0 where
  pub name_is : project.name ≡ name
  pub features : project.features ≡ contents.features
  pub headers : project.headers ≡ contents.headers
  pub model : IsModelOf contents.features contents.constraints project.model
  pub units : AreUnits contents.features contents.units project.units

-- The project file of this name has no fault, and says this project.
pub record IsProject (name bytes : List ℕ) (project : PlainProject) : Type 0 where
  pub contents : Contents
  pub says : SaysContents name bytes contents
  pub lawful : AreFeatureNames contents.features
  pub once : NamesOnce contents
  pub project_is : IsProjectOf name contents project
