-- What each check of a project file can find.
use Rattle.std.specs.Prelude.{◌≡◌, ℕ, ◌+◌, List, map, Option}
use Rattle.toml.specs.Data.{Members}
use Rattle.feature_model.specs.declared.errors.ModelError.{ModelError}
use Rattle.feature_model.specs.declared.errors.ModelError.TheVariants.{Syntax, UnknownFeature, TooMany, Memory}
use Rattle.project_file.specs.declared.errors.ProjectError.{ProjectError}
use Rattle.project_file.specs.declared.errors.ProjectError.TheVariants as error
use Rattle.project_file.specs.Documents.{IsToml}
use Rattle.project_file.specs.Contents.{UnitText, Contents}
use Rattle.project_file.specs.Projects.{PlainUnit, AreFeatureNames}
use Rattle.project_file.specs.Texts.{IsLawful, IsPresence}
use Rattle.project_file.specs.Faults.{Fault, not_toml, shape, feature, duplicate, constraint, IsShapeFault, IsFirstUnlawful, IsDuplicate, IsFirstBadText}

-- of the bytes: that they are no TOML
abbrev pub IsTomlFault : List ℕ → Fault → Type 0
IsTomlFault bytes not_toml = (document : Members) → IsToml bytes document → ⊥
IsTomlFault bytes _ = ⊥

-- of the shape
abbrev pub IsFaultOfShape : List ℕ → Members → Fault → Type 0
IsFaultOfShape project document (shape key) = IsShapeFault project document key
IsFaultOfShape project document _ = ⊥

-- of the names
abbrev pub IsFaultOfNames : Contents → Fault → Type 0
IsFaultOfNames contents (feature name) = IsFirstUnlawful contents.features name
IsFaultOfNames contents (duplicate name) = AreFeatureNames contents.features × IsDuplicate contents name
IsFaultOfNames contents _ = ⊥

-- of texts over features, of which the first has this place
abbrev pub IsFaultOfTexts : List (List ℕ) → List (Option (List ℕ)) → Fault → Type 0
IsFaultOfTexts names texts (constraint place) = IsFirstBadText names texts place
IsFaultOfTexts names texts _ = ⊥

-- the error about a text that is refused
abbrev pub refusal_of : ModelError → ProjectError
refusal_of (Syntax place) = error.Constraint place
refusal_of (UnknownFeature place) = error.Constraint place
refusal_of TooMany = error.Memory
refusal_of Memory = error.Memory

-- the same of a text that stands at another place
abbrev pub refusal_at : ModelError → ℕ → ProjectError
refusal_at (Syntax _) place = error.Constraint place
refusal_at (UnknownFeature _) place = error.Constraint place
refusal_at TooMany place = error.Memory
refusal_at Memory place = error.Memory

-- of a text at a place: that it is no constraint over features of these names
abbrev pub IsFaultOfText : List (List ℕ) → Option (List ℕ) → ℕ → Fault → Type 0
IsFaultOfText names text place (constraint at) = (at ≡ place) × (IsLawful names text → ⊥)
IsFaultOfText names text place _ = ⊥

-- of the texts of units, where so many stand before them
abbrev pub IsFaultOfUnits : List (List ℕ) → List UnitText → ℕ → Fault → Type 0
IsFaultOfUnits names units before (constraint place) =
    (at : ℕ) × (place ≡ before + at) × IsFirstBadText names (map (λ u. u.when) units) at
IsFaultOfUnits names units before _ = ⊥

-- the unit of a file and the text of its condition
abbrev pub IsUnitOf : List (List ℕ) → UnitText → PlainUnit → Type 0
IsUnitOf names text unit = (unit.file ≡ text.file) × IsPresence names text.when unit.when
