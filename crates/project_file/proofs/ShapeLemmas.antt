-- Tables of units, one by one, and what the names of files are.
use Rattle.std.proofs.Common.{◌≡◌, ◌==◌, ℕ, zero, suc, ◌+◌, ◌<◌, ◌≤◌, codes, true, false, length, take, get_or, List, [], ◌∷◌, ◌++◌, map, Option, Some, None, String, Vec, Global, string_bytes, refl, sym, ap, subst, ◌∙◌, arith}
use Rattle.std.specs.List.{All, list_all}
use Rattle.std.proofs.lemmas.Bool.{both_ways}
use Rattle.std.proofs.lemmas.List.Elements.{All-map}
use Rattle.std.proofs.lemmas.List.Sums.{AllPass-from_list_all, list_all-from_AllPass}
use Rattle.toml.specs.Data.{Data, string, integer, float, boolean, datetime, array, table, Items, no_items, item, Members, push_item, as_array, as_table, get_member}
use Rattle.toml.specs.View.{view, items_view}
use Rattle.toml.specs.declared.value.Value.{Value}
use Rattle.project_file.specs.declared.contents.UnitText.{UnitText as CodeUnitText}
use Rattle.project_file.specs.View.{Finds, unit_texts_view}
use Rattle.project_file.specs.Contents.{UnitText, is_source_name, HasFeatures, HasHeaders, HasFile, HasUnits, IsUnitValue, AreUnitValues}
use Rattle.project_file.specs.Documents.{strings, AreStrings}
use Rattle.project_file.proofs.DocumentLemmas.{items_view-more}

units-push : (project : List ℕ) (values : Items) (units : List UnitText) (value : Data) (u : UnitText) → AreUnitValues project values units → IsUnitValue project value u → AreUnitValues project (push_item values value) (units ++ u ∷ [])
units-push project no_items [] value u h is = (is, tt)
units-push project no_items (t ∷ units) value u h is = absurd h
units-push project (item v values) [] value u h is = absurd h
units-push project (item v values) (t ∷ units) value u h is = (h.0, units-push project values units value u h.1 is)

pub units_more : (project : List ℕ) (values : List Value) (i : ℕ) (v : Value) (units : List UnitText) (u : UnitText) → i < length values → v ≡ get_or values i v
    → AreUnitValues project (items_view (take i values)) units → IsUnitValue project (view v) u
    → AreUnitValues project (items_view (take (i + 1) values)) (units ++ u ∷ [])
units_more project values i v units u h at so_far is =
    rw (items_view-more values i v h at) (units-push project (items_view (take i values)) units (view v) u so_far is)

-- each value of an array of units is one
pub each_unit : (project : List ℕ) (values : List Value) (units : List UnitText) (k : ℕ) (d : Value) → AreUnitValues project (items_view values) units → k < length values → (u : UnitText) × IsUnitValue project (view (get_or values k d)) u
each_unit project [] units k d h less = absurd (omega arith)
each_unit project (v ∷ values) [] k d h less = absurd h
each_unit project (v ∷ values) (u ∷ units) zero d h less = (u, h.0)
each_unit project (v ∷ values) (u ∷ units) (suc k) d h less = each_unit project values units k d h.1 (omega arith)

-- a value that is an array, and one that is a table
pub array_from : (value : Data) (values : Items) → Some values ≡ as_array value → value ≡ array values
array_from (string s) values e = cc
array_from (integer z) values e = cc
array_from (float x) values e = cc
array_from (boolean b) values e = cc
array_from (datetime d) values e = cc
array_from (array ds) values e = cc
array_from (table ms) values e = cc

pub no_array : (value : Data) (values : Items) → None ≡ as_array value → value ≡ array values → ⊥
no_array value values none is = let e : ◌≡◌ {A = Option Items} None (Some values) = none ∙ ap as_array is in cc

pub table_from : (value : Data) (members : Members) → Some members ≡ as_table value → value ≡ table members
table_from (string s) ns e = cc
table_from (integer z) ns e = cc
table_from (float x) ns e = cc
table_from (boolean b) ns e = cc
table_from (datetime d) ns e = cc
table_from (array ds) ns e = cc
table_from (table ms) ns e = cc

pub no_table : (project : List ℕ) (value : Data) (u : UnitText) → None ≡ as_table value → IsUnitValue project value u → ⊥
no_table project (string s) u none h = h
no_table project (integer z) u none h = h
no_table project (float x) u none h = h
no_table project (boolean b) u none h = h
no_table project (datetime d) u none h = h
no_table project (array ds) u none h = h
no_table project (table ms) u none h = let f : ⊥ = cc in f

-- names of files, as a test finds them
pub source_names : (project : List ℕ) (names : List (String Global)) → list_all (λ name. is_source_name project (string_bytes name)) names ≡ true → All (λ name. is_source_name project name ≡ true) (map string_bytes names)
source_names project names h =
    All-map (λ name. is_source_name project name ≡ true) string_bytes names
    (AllPass-from_list_all (λ name. is_source_name project (string_bytes name)) names h)

get_or-map : {X Y : Type 0} (f : X → Y) (xs : List X) (k : ℕ) (d : X) → get_or (map f xs) k (f d) ≡ f (get_or xs k d)
get_or-map f [] k d = refl
get_or-map f (x ∷ xs) zero d = refl
get_or-map f (x ∷ xs) (suc k) d = get_or-map f xs k d

length-map' : {X Y : Type 0} (f : X → Y) (xs : List X) → length (map f xs) ≡ length xs
length-map' f [] = refl
length-map' f (x ∷ xs) = ap suc (length-map' f xs)

pub tested_names : (project : List ℕ) (names : List (String Global)) → All (λ name. is_source_name project name ≡ true) (map string_bytes names) → list_all (λ name. is_source_name project (string_bytes name)) names ≡ true
tested_names project names h =
    list_all-from_AllPass (λ name. is_source_name project (string_bytes name)) names
    (λ k d less.
    subst (λ n. is_source_name project n ≡ true) (get_or-map string_bytes names k d)
    (h k (string_bytes d) (subst (λ n. k < n) (sym (length-map' string_bytes names)) less)))

strings_one : (a b : List (List ℕ)) → strings a ≡ strings b → a ≡ b
strings_one [] [] e = refl
strings_one [] (t ∷ b) e = let f : ⊥ = cc in absurd f
strings_one (s ∷ a) [] e = let f : ⊥ = cc in absurd f
strings_one (s ∷ a) (t ∷ b) e = let same : strings a ≡ strings b = cc in let rest = strings_one a b same in cc

-- a key holds the strings of one list
pub strings_same : (found : Option Data) (a b : List (List ℕ)) → AreStrings found a → AreStrings found b → a ≡ b
strings_same None a b h k = h ∙ sym k
strings_same (Some v) a b h k = let same : strings a ≡ strings b = cc in strings_one a b same

pub too_many : (document : Members) (names : List (String Global)) → AreStrings (get_member (codes "features") document) (map string_bytes names) → 128 < length names
    → (features : List (List ℕ)) → HasFeatures document features → ⊥
too_many document names are many features has =
    let same = strings_same _ (map string_bytes names) features are has.are_strings in
    omega (arith, ap length same, length-map' string_bytes names, has.few)

pub are_features : (document : Members) (names : List (String Global)) → AreStrings (get_member (codes "features") document) (map string_bytes names) → length names ≤ 128
    → HasFeatures document (map string_bytes names)
are_features document names are few =
    record { are_strings = are; few = omega (arith, length-map' string_bytes names) }

pub bad_name : (project : List ℕ) (document : Members) (names : List (String Global)) → AreStrings (get_member (codes "headers") document) (map string_bytes names)
    → list_all (λ name. is_source_name project (string_bytes name)) names ≡ false → (headers : List (List ℕ)) → HasHeaders project document headers → ⊥
bad_name project document names are bad headers has =
    let same = strings_same _ headers (map string_bytes names) has.are_strings are in
    both_ways (list_all (λ name. is_source_name project (string_bytes name)) names) bad
    (tested_names project names (subst (λ ns. All (λ name. is_source_name project name ≡ true) ns) same has.good))

pub are_headers : (project : List ℕ) (document : Members) (names : List (String Global)) → AreStrings (get_member (codes "headers") document) (map string_bytes names)
    → list_all (λ name. is_source_name project (string_bytes name)) names ≡ true → HasHeaders project document (map string_bytes names)
are_headers project document names are good = record { are_strings = are; good = source_names project names good }

pub bad_file : (project : List ℕ) (document : Members) (text : List ℕ) → get_member (codes "file") document ≡ Some (string text) → is_source_name project text ≡ false
    → (file : List ℕ) → HasFile project document file → ⊥
bad_file project document text held bad file has =
    let e : ◌≡◌ {A = Option Data} (Some (string text)) (Some (string file)) = sym held ∙ has.is_string in
    let same : text ≡ file = cc in
    both_ways (is_source_name project text) bad (ap (is_source_name project) same ∙ has.good)

-- units that are an array of values
items_one : (a b : Items) → ◌≡◌ {A = Option Data} (Some (array a)) (Some (array b)) → a ≡ b
items_one a b e = cc

pub no_units : (project : List ℕ) (document : Members) (values : Items) → get_member (codes "unit") document ≡ Some (array values)
    → ((units : List UnitText) → AreUnitValues project values units → ⊥) → (units : List UnitText) → HasUnits project document units → ⊥
no_units project document values held none units has =
    let same = items_one has.values values (sym has.are_values ∙ held) in
    none units (subst (λ vs. AreUnitValues project vs units) same has.are_units)

some_values : (project : List ℕ) (values : List Value) (units : List UnitText) → AreUnitValues project (items_view values) units → 0 < length values → units ≡ [] → ⊥
some_values project [] units are some e = omega arith
some_values project (v ∷ values) units are some e = subst (λ us. AreUnitValues project (items_view (v ∷ values)) us) e are

pub are_units : (project : List ℕ) (document : Members) (values : List Value) (units : List UnitText) → get_member (codes "unit") document ≡ Some (array (items_view values))
    → 0 < length values → AreUnitValues project (items_view values) units → HasUnits project document units
are_units project document values units held some are =
    record { values = items_view values; are_values = held; are_units = are; some = some_values project values units are some }

none_units : (project : List ℕ) (values : List Value) (units : List UnitText) → length values ≡ 0 → AreUnitValues project (items_view values) units → units ≡ []
none_units project [] [] e are = refl
none_units project [] (u ∷ units) e are = absurd are
none_units project (v ∷ values) units e are = absurd (omega arith)

pub no_values : (project : List ℕ) (document : Members) (values : List Value) → get_member (codes "unit") document ≡ Some (array (items_view values)) → length values ≡ 0
    → (units : List UnitText) → HasUnits project document units → ⊥
no_values project document values held empty units has =
    let same = items_one has.values (items_view values) (sym has.are_values ∙ held) in
    has.some (none_units project values units empty (subst (λ vs. AreUnitValues project vs units) same has.are_units))

not_empty : (n : ℕ) → (n == 0) ≡ false → 0 < n
not_empty zero e = cc
not_empty (suc n) e = omega arith

-- what was found in the values of units
pub found_units : (project : List ℕ) (document : Members) (values : List Value) (found : Option (Vec CodeUnitText Global))
    → get_member (codes "unit") document ≡ Some (array (items_view values)) → (length values == 0) ≡ false
    → Finds unit_texts_view (AreUnitValues project (items_view values)) found → Finds unit_texts_view (HasUnits project document) found
found_units project document values None held some none = no_units project document (items_view values) held none
found_units project document values (Some units) held some are =
    are_units project document values (unit_texts_view units) held (not_empty (length values) some) are
