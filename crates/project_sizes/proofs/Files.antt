-- How many files a project names.
use Rattle.std.proofs.Common.{◌≡◌, ℕ, suc, ◌+◌, ◌≤◌, List, [], ◌∷◌, map, length, codes, Option, Some, None, refl, ap, subst, arith, length-append}
use Rattle.std.proofs.lemmas.List.{length-map}
use Rattle.toml.specs.Data.{Data, array, Items, no_items, item, get_member}
use Rattle.project_file.specs.Documents.{strings, AreStrings}
use Rattle.project_file.specs.Contents.{UnitText, AreUnitValues, HasUnits, longest_file}
use Rattle.project_file.specs.Projects.{PlainUnit, AreUnits}
use Rattle.project_store.specs.Reads.{names_of}
use Rattle.file_outcomes.proofs.TomlStrings.{Holds}
use Rattle.project_sizes.specs.Laws.{ProjectsHaveFewFiles}
use Rattle.project_sizes.proofs.Tables.{number_of, IsSmall}
use Rattle.project_sizes.proofs.Texts.{most_items, key_small}

number-strings : (texts : List (List ℕ)) → number_of (strings texts) ≡ length texts
number-strings [] = refl
number-strings (text ∷ texts) = ap suc (number-strings texts)

few-strings : (most : ℕ) (o : Option Data) (texts : List (List ℕ)) → Holds (IsSmall most) o → AreStrings o texts → length texts ≤ most
few-strings most None texts h are = let none = ap length are in omega (arith, none)
few-strings most (Some datum) texts h are =
    let few : number_of (strings texts) ≤ most = subst (IsSmall most) are h in
    let same = number-strings texts in omega (arith, few, same)

number-units : (project : List ℕ) (values : Items) (units : List UnitText) → AreUnitValues project values units → length units ≡ number_of values
number-units project no_items [] are = refl
number-units project no_items (u ∷ units) are = absurd are
number-units project (item datum values) [] are = absurd are
number-units project (item datum values) (u ∷ units) are = ap suc (number-units project values units are.1)

number-present : (names : List (List ℕ)) (texts : List UnitText) (units : List PlainUnit) → AreUnits names texts units → length units ≡ length texts
number-present names [] [] are = refl
number-present names [] (unit ∷ units) are = absurd are
number-present names (text ∷ texts) [] are = absurd are
number-present names (text ∷ texts) (unit ∷ units) are = ap suc (number-present names texts units are.2)

pub few-files : ProjectsHaveFewFiles
few-files name bytes project is =
    let all : length (names_of project) ≡ length project.headers + length (map (λ (u : PlainUnit). u.file) project.units) =
    length-append project.headers (map (λ (u : PlainUnit). u.file) project.units) in
    let units : length (map (λ (u : PlainUnit). u.file) project.units) ≡ length project.units = length-map project.units (λ (u : PlainUnit). u.file) in
    omega (arith, all, units, few-headers, few-units)
  where
    document-few : (key : List ℕ) → Holds (IsSmall (most_items longest_file)) (get_member key is.says.document)
    document-few key = key_small longest_file bytes is.says.document key is.says.short is.says.is_toml.parsed

    few-headers : length project.headers ≤ most_items longest_file
    few-headers =
        let same : length project.headers ≡ length is.contents.headers = ap length is.project_is.headers in
        let few : length is.contents.headers ≤ most_items longest_file =
        few-strings (most_items longest_file) (get_member (codes "headers") is.says.document) is.contents.headers (document-few (codes "headers")) is.says.are_contents.headers.are_strings in
        omega (arith, same, few)

    few-units : length project.units ≤ most_items longest_file
    few-units =
        let has : HasUnits name is.says.document is.contents.units = is.says.are_contents.units in
        let few : IsSmall (most_items longest_file) (array has.values) = subst (Holds (IsSmall (most_items longest_file))) has.are_values (document-few (codes "unit")) in
        let texts : length is.contents.units ≡ number_of has.values = number-units name has.values is.contents.units has.are_units in
        let same : length project.units ≡ length is.contents.units = number-present is.contents.features is.contents.units project.units is.project_is.units in
        omega (arith, few, texts, same)
