-- The names of a project's files are names of sources, and none of them is the project file's.
use Rattle.std.proofs.Common.{◌≡◌, ◌≢◌, ℕ, Bool, true, false, not, ◌&&◌, List, [], ◌∷◌, ◌++◌, map, get_or, All, refl, sym, ◌∙◌, ap, subst}
use Rattle.std.specs.Str.{bytes_eq}
use Rattle.std.proofs.lemmas.Slice.Eq.{bytes_eq-Decides}
use Rattle.std.proofs.lemmas.List.Elements.{All-nil, All-cons, All-append}
use Rattle.std.proofs.lemmas.List.Quantifiers.{all_pairs_push}
use Rattle.c_names.specs.FileNames.{is_file_name}
use Rattle.toml.specs.Data.{Data, string, integer, float, boolean, datetime, array, table, Items, no_items, item}
use Rattle.project_file.specs.Contents.{UnitText, AreUnitValues, IsUnitValue, is_source_name, files_of}
use Rattle.project_file.specs.Projects.{PlainUnit, PlainProject, AllDiffer, AreUnits, IsProject}
use Rattle.project_store.specs.Reads.{names_of}

unit_good : (project : List ℕ) (value : Data) (u : UnitText) → IsUnitValue project value u → is_source_name project u.file ≡ true
unit_good project (string s) u h = absurd h
unit_good project (integer z) u h = absurd h
unit_good project (float x) u h = absurd h
unit_good project (boolean t) u h = absurd h
unit_good project (datetime d) u h = absurd h
unit_good project (array ds) u h = absurd h
unit_good project (table ms) u h = h.file.good

units_good : (project : List ℕ) (values : Items) (units : List UnitText) → AreUnitValues project values units
    → All (λ name. is_source_name project name ≡ true) (map (λ (u : UnitText). u.file) units)
units_good project no_items [] h = All-nil (λ name. is_source_name project name ≡ true)
units_good project no_items (u ∷ units) h = absurd h
units_good project (item value values) [] h = absurd h
units_good project (item value values) (u ∷ units) h =
    All-cons (λ name. is_source_name project name ≡ true) u.file (map (λ (u : UnitText). u.file) units) (unit_good project value u h.0) (units_good project values units h.1)

same_files : (names : List (List ℕ)) (texts : List UnitText) (units : List PlainUnit) → AreUnits names texts units
    → map (λ (u : PlainUnit). u.file) units ≡ map (λ (u : UnitText). u.file) texts
same_files names [] [] h = refl
same_files names [] (u ∷ units) h = absurd h
same_files names (t ∷ texts) [] h = absurd h
same_files names (t ∷ texts) (u ∷ units) h =
    ap (λ f. f ∷ map (λ (u : PlainUnit). u.file) units) h.0 ∙ ap (λ fs. t.file ∷ fs) (same_files names texts units h.2)

not_itself : (a c : Bool) (name project : List ℕ) → (a && not (bytes_eq name project) && c) ≡ true → name ≢ project
not_itself a c name project good same = by a (bytes_eq name project) good ((bytes_eq-Decides name project).1 same)
  where
    by : (x y : Bool) → (x && not y && c) ≡ true → y ≡ true → ⊥
    by false y h e = let no : ◌≡◌ {A = Bool} false true = h in cc
    by true false h e = let no : ◌≡◌ {A = Bool} false true = e in cc
    by true true h e = let no : ◌≡◌ {A = Bool} false true = h in cc

module _ (name bytes : List ℕ) (project : PlainProject) (is : IsProject name bytes project) where
  names_are : names_of project ≡ files_of is.contents
  names_are =
      ap (λ hs. hs ++ map (λ (u : PlainUnit). u.file) project.units) is.project_is.headers
      ∙ ap (λ fs. is.contents.headers ++ fs) (same_files is.contents.features is.contents.units project.units is.project_is.units)

  sources_good : All (λ file. is_source_name name file ≡ true) (files_of is.contents)
  sources_good =
      let contents = is.says.are_contents in
      All-append (λ file. is_source_name name file ≡ true) is.contents.headers (map (λ (u : UnitText). u.file) is.contents.units) contents.headers.good
      (units_good name contents.units.values is.contents.units contents.units.are_units)

  -- no two of the names of the project's files and of the project file itself are the same
  pub all_differ : AllDiffer (names_of project ++ name ∷ [])
  all_differ =
      subst (λ names. AllDiffer (names ++ name ∷ [])) (sym names_are)
      (all_pairs_push (λ a b. a ≢ b) (files_of is.contents) name is.once.files
      (λ k d less. let file = get_or (files_of is.contents) k d in not_itself (is_file_name file) (not (bytes_eq file _)) file name (sources_good k d less)))
