-- What a project file says: its features, constraints, headers and units, as texts.
use Rattle.std.specs.Prelude.{◌≡◌, ◌≢◌, ℕ, ◌≤◌, Bool, true, not, ◌&&◌, List, [], ◌∷◌, ◌++◌, map, length, All, Option, Some, codes, option_map, ⊤}
use Rattle.std.specs.Str.{bytes_eq}
use Rattle.c_names.specs.FileNames.{is_file_name}
use Rattle.toml.specs.Data.{Data, string, array, table, Items, no_items, item, Members, get_member}
use Rattle.project_file.specs.Documents.{IsToml, AllListed, AreStrings}

-- a unit's file, and the text of its condition if it has one
pub record UnitText : Type 0 where
  pub file : List ℕ
  pub when : Option (List ℕ)

pub record Contents : Type 0 where
  pub features : List (List ℕ)
  pub constraints : List (List ℕ)
  pub headers : List (List ℕ)
  pub units : List UnitText

-- the keys of a document, and of the table of a unit
abbrev pub document_keys : List (List ℕ)
document_keys = codes "features" ∷ codes "constraints" ∷ codes "headers" ∷ codes "unit" ∷ []

abbrev pub unit_keys : List (List ℕ)
unit_keys = codes "file" ∷ codes "when" ∷ []

-- a file name that is neither the project file's nor the proof file's
abbrev pub is_source_name : List ℕ → List ℕ → Bool
is_source_name project name =
    is_file_name name && not (bytes_eq name project) && not (bytes_eq name (codes "morpheus.proof"))

-- the features are an array of at most 128 strings
pub record HasFeatures (document : Members) (features : List (List ℕ)) : Type 0 where
  pub are_strings : AreStrings (get_member (codes "features") document) features
  pub few : length features ≤ 128

-- the constraints are an array of strings
abbrev pub HasConstraints : Members → List (List ℕ) → Type 0
HasConstraints document constraints = AreStrings (get_member (codes "constraints") document) constraints

-- the headers are an array of names of files
pub record HasHeaders (project : List ℕ) (document : Members) (headers : List (List ℕ)) : Type 0 where
  pub are_strings : AreStrings (get_member (codes "headers") document) headers
  pub good : All (λ name. is_source_name project name ≡ true) headers

-- the table names a file
pub record HasFile (project : List ℕ) (members : Members) (file : List ℕ) : Type 0 where
  pub is_string : get_member (codes "file") members ≡ Some (string file)
  pub good : is_source_name project file ≡ true

-- the table of a unit: the name of its file, perhaps a text, and no other key
pub record IsUnitTable (project : List ℕ) (members : Members) (u : UnitText) : Type 0 where
  pub keys : AllListed unit_keys members
  pub file : HasFile project members u.file
  pub when : get_member (codes "when") members ≡ option_map string u.when

-- a value that is the table of a unit
abbrev pub IsUnitValue : List ℕ → Data → UnitText → Type 0
IsUnitValue project (table members) u = IsUnitTable project members u
IsUnitValue project _ u = ⊥

-- tables of units, one by one
abbrev pub AreUnitValues : List ℕ → Items → List UnitText → Type 0
AreUnitValues project no_items [] = ⊤
AreUnitValues project no_items (u ∷ units) = ⊥
AreUnitValues project (item value values) [] = ⊥
AreUnitValues project (item value values) (u ∷ units) = IsUnitValue project value u × AreUnitValues project values units

-- the units are an array of one table or more
pub record HasUnits (project : List ℕ) (document : Members) (units : List UnitText) : Type 0 where
  pub values : Items
  pub are_values : get_member (codes "unit") document ≡ Some (array values)
  pub are_units : AreUnitValues project values units
  pub some : units ≢ []

-- a document has the listed keys alone, and says this
pub record IsContents (project : List ℕ) (document : Members) (contents : Contents) : Type 0 where
  pub keys : AllListed document_keys document
  pub features : HasFeatures document contents.features
  pub constraints : HasConstraints document contents.constraints
  pub headers : HasHeaders project document contents.headers
  pub units : HasUnits project document contents.units

-- the bytes of the longest file that is read
abbrev pub longest_file : ℕ
longest_file = 16777216

-- the bytes of a project file of this name say this
pub record SaysContents (project bytes : List ℕ) (contents : Contents) : Type 0 where
  pub short : length bytes ≤ longest_file
  pub document : Members
  pub is_toml : IsToml bytes document
  pub are_contents : IsContents project document contents

-- the names of the files: headers first, then units
abbrev pub files_of : Contents → List (List ℕ)
files_of contents = contents.headers ++ map (λ u. u.file) contents.units

-- the texts over features: the constraints, and then what the units have
abbrev pub texts_of : Contents → List (Option (List ℕ))
texts_of contents = map Some contents.constraints ++ map (λ u. u.when) contents.units
