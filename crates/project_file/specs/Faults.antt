-- The faults of project files, in the order in which they are looked for.
use Rattle.std.specs.Prelude.{◌≡◌, ℕ, suc, ◌<◌, ◌≤◌, false, List, ◌∷◌, ◌++◌, length, All, Contains, Option, Some, codes, ◌⊎◌}
use Rattle.c_names.specs.Names.{is_new_name}
use Rattle.toml.specs.Data.{Members}
use Rattle.project_file.specs.Documents.{IsToml, AllListed, IsFirstUnlisted}
use Rattle.project_file.specs.Contents.{UnitText, Contents, document_keys, HasFeatures, HasConstraints, HasHeaders, HasUnits, longest_file, SaysContents, files_of, texts_of}
use Rattle.project_file.specs.Texts.{IsConstraintOver, IsLawful}
use Rattle.project_file.specs.Projects.{AllDiffer, AreFeatureNames, NamesOnce}

-- a fault, with the key, the name or the place that it is reported with
pub data Fault : Type 0 where
  size : List ℕ → Fault
  not_toml : Fault
  shape : List ℕ → Fault
  feature : List ℕ → Fault
  duplicate : List ℕ → Fault
  constraint : ℕ → Fault

-- Why the shape of a document is faulty at a key: the first key in byte order that isn't listed, or else the first of
-- `features`, `constraints`, `headers` and `unit` that doesn't hold what it must.
pub data IsShapeFault (project : List ℕ) (document : Members) (key : List ℕ) : Type 0 where
  unlisted : IsFirstUnlisted document_keys document key → IsShapeFault project document key
  bad_features :
      key ≡ codes "features" → AllListed document_keys document
      → ((features : List (List ℕ)) → HasFeatures document features → ⊥)
      → IsShapeFault project document key
  bad_constraints :
      key ≡ codes "constraints" → AllListed document_keys document
      → (features : List (List ℕ)) → HasFeatures document features
      → ((constraints : List (List ℕ)) → HasConstraints document constraints → ⊥)
      → IsShapeFault project document key
  bad_headers :
      key ≡ codes "headers" → AllListed document_keys document
      → (features : List (List ℕ)) → HasFeatures document features
      → (constraints : List (List ℕ)) → HasConstraints document constraints
      → ((headers : List (List ℕ)) → HasHeaders project document headers → ⊥)
      → IsShapeFault project document key
  bad_units :
      key ≡ codes "unit" → AllListed document_keys document
      → (features : List (List ℕ)) → HasFeatures document features
      → (constraints : List (List ℕ)) → HasConstraints document constraints
      → (headers : List (List ℕ)) → HasHeaders project document headers
      → ((units : List UnitText) → HasUnits project document units → ⊥)
      → IsShapeFault project document key

-- a document's shape is faulty
pub record HasShapeFault (project bytes key : List ℕ) : Type 0 where
  pub short : length bytes ≤ longest_file
  pub document : Members
  pub is_toml : IsToml bytes document
  pub fault : IsShapeFault project document key

-- the first name that no feature may have
pub record IsFirstUnlawful (names : List (List ℕ)) (name : List ℕ) : Type 0 where
  pub before : List (List ℕ)
  pub after : List (List ℕ)
  pub split : names ≡ before ++ name ∷ after
  pub lawful : AreFeatureNames before
  pub unlawful : is_new_name name ≡ false

-- the first name that stands earlier in the list
pub record IsFirstRepeated (names : List (List ℕ)) (name : List ℕ) : Type 0 where
  pub before : List (List ℕ)
  pub after : List (List ℕ)
  pub split : names ≡ before ++ name ∷ after
  pub differ : AllDiffer before
  pub earlier : Contains before name

-- the first feature that is named twice, or else the first file
abbrev pub IsDuplicate : Contents → List ℕ → Type 0
IsDuplicate contents name =
    IsFirstRepeated contents.features name ⊎ (AllDiffer contents.features × IsFirstRepeated (files_of contents) name)

-- the first text that is no constraint over these features; it has this place, from 1
pub record IsFirstBadText (names : List (List ℕ)) (texts : List (Option (List ℕ))) (place : ℕ) : Type 0 where
  pub before : List (Option (List ℕ))
  pub text : List ℕ
  pub after : List (Option (List ℕ))
  pub split : texts ≡ before ++ Some text ∷ after
  pub place_is : place ≡ suc (length before)
  pub lawful : All (IsLawful names) before
  pub bad : IsConstraintOver names text → ⊥

-- the first fault of a project file with this name
abbrev pub FirstFault : List ℕ → List ℕ → Fault → Type 0
FirstFault project bytes (size name) = (name ≡ project) × (longest_file < length bytes)
FirstFault project bytes not_toml = (length bytes ≤ longest_file) × ((document : Members) → IsToml bytes document → ⊥)
FirstFault project bytes (shape key) = HasShapeFault project bytes key
FirstFault project bytes (feature name) =
    (contents : Contents) × SaysContents project bytes contents × IsFirstUnlawful contents.features name
FirstFault project bytes (duplicate name) =
    (contents : Contents) × SaysContents project bytes contents × AreFeatureNames contents.features
    × IsDuplicate contents name
FirstFault project bytes (constraint place) =
    (contents : Contents) × SaysContents project bytes contents × AreFeatureNames contents.features
    × NamesOnce contents × IsFirstBadText contents.features (texts_of contents) place
