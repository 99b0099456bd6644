-- A project file's contents are one, and a fault contradicts a project.
use Rattle.std.proofs.Common.{◌≡◌, ℕ, zero, suc, ◌<◌, true, length, get_or, List, [], ◌∷◌, ◌++◌, map, Option, Some, None, codes, refl, sym, ap, subst, ◌∙◌, inl, inr, arith}
use Rattle.std.specs.Prelude.{option_map}
use Rattle.std.specs.List.{All, Contains}
use Rattle.std.proofs.lemmas.Bool.{both_ways}
use Rattle.std.proofs.lemmas.List.Elements.{All-contains, All-append}
use Rattle.c_names.specs.Names.{is_new_name}
use Rattle.toml.specs.Data.{Data, string, integer, float, boolean, datetime, array, table, Items, no_items, item, Members, get_member}
use Rattle.project_file.specs.Documents.{IsToml, keys_of, is_listed, AllListed, IsFirstUnlisted}
use Rattle.project_file.specs.Contents.{UnitText, Contents, IsUnitTable, IsUnitValue, AreUnitValues, HasUnits, IsContents, SaysContents, files_of, texts_of, document_keys}
use Rattle.project_file.specs.Texts.{IsLawful}
use Rattle.project_file.specs.Projects.{PlainProject, AllDiffer, AreFeatureNames, NamesOnce, IsProjectOf}
use Rattle.project_file.specs.Faults.{size, not_toml, shape, feature, duplicate, constraint, IsShapeFault, unlisted, bad_features, bad_constraints, bad_headers, bad_units, IsFirstUnlawful, IsFirstRepeated, IsDuplicate, IsFirstBadText}
use Rattle.project_file.specs.Laws.{ProjectsHaveNoFault}
use Rattle.project_file.proofs.ShapeLemmas.{strings_same}
use Rattle.project_file.proofs.TextLemmas.{lawful_model, lawful_units}

-- what a unit's table says is one
when_one : (a b : Option (List ℕ)) → option_map string a ≡ option_map string b → a ≡ b
when_one None None e = refl
when_one None (Some b) e = cc
when_one (Some a) None e = cc
when_one (Some a) (Some b) e = cc

table_one : (project : List ℕ) (members : Members) (a b : UnitText) → IsUnitTable project members a → IsUnitTable project members b → a ≡ b
table_one project ms a b h k =
    let e : ◌≡◌ {A = Option Data} (Some (string a.file)) (Some (string b.file)) = sym h.file.is_string ∙ k.file.is_string in
    let file : a.file ≡ b.file = cc in
    let when : a.when ≡ b.when = when_one a.when b.when (sym h.when ∙ k.when) in
    ap (λ f. record { file = f; when = a.when }) file ∙ ap (λ w. record { file = b.file; when = w }) when

value_one : (project : List ℕ) (value : Data) (a b : UnitText) → IsUnitValue project value a → IsUnitValue project value b → a ≡ b
value_one project (string s) a b h k = absurd h
value_one project (integer z) a b h k = absurd h
value_one project (float x) a b h k = absurd h
value_one project (boolean t) a b h k = absurd h
value_one project (datetime d) a b h k = absurd h
value_one project (array ds) a b h k = absurd h
value_one project (table ms) a b h k = table_one project ms a b h k

units_one : (project : List ℕ) (values : Items) (a b : List UnitText) → AreUnitValues project values a → AreUnitValues project values b → a ≡ b
units_one project no_items [] [] h k = refl
units_one project no_items [] (u ∷ b) h k = absurd k
units_one project no_items (t ∷ a) b h k = absurd h
units_one project (item v values) [] b h k = absurd h
units_one project (item v values) (t ∷ a) [] h k = absurd k
units_one project (item v values) (t ∷ a) (u ∷ b) h k =
    ap (λ x. x ∷ a) (value_one project v t u h.0 k.0) ∙ ap (λ xs. u ∷ xs) (units_one project values a b h.1 k.1)

has_units_one : (project : List ℕ) (document : Members) (a b : List UnitText) → HasUnits project document a → HasUnits project document b → a ≡ b
has_units_one project document a b h k =
    let e : ◌≡◌ {A = Option Data} (Some (array h.values)) (Some (array k.values)) = sym h.are_values ∙ k.are_values in
    let same : h.values ≡ k.values = cc in
    units_one project k.values a b (subst (λ vs. AreUnitValues project vs a) same h.are_units) k.are_units

-- a document says one thing
pub contents_one : (project : List ℕ) (document : Members) (a b : Contents) → IsContents project document a → IsContents project document b → a ≡ b
contents_one project document a b h k =
    let features : a.features ≡ b.features = strings_same (get_member (codes "features") document) a.features b.features h.features.are_strings k.features.are_strings in
    let constraints : a.constraints ≡ b.constraints = strings_same (get_member (codes "constraints") document) a.constraints b.constraints h.constraints k.constraints in
    let headers : a.headers ≡ b.headers = strings_same (get_member (codes "headers") document) a.headers b.headers h.headers.are_strings k.headers.are_strings in
    let units : a.units ≡ b.units = has_units_one project document a.units b.units h.units k.units in
    ap (λ x. record { features = x; constraints = a.constraints; headers = a.headers; units = a.units }) features
    ∙ ap (λ x. record { features = b.features; constraints = x; headers = a.headers; units = a.units }) constraints
    ∙ ap (λ x. record { features = b.features; constraints = b.constraints; headers = x; units = a.units }) headers
    ∙ ap (λ x. record { features = b.features; constraints = b.constraints; headers = b.headers; units = x }) units

pub document_one : (bytes : List ℕ) (a b : Members) → IsToml bytes a → IsToml bytes b → a ≡ b
document_one bytes a b h k =
    let e : ◌≡◌ {A = Option Members} (Some a) (Some b) = sym h.parsed ∙ k.parsed in cc

pub says_one : (project bytes : List ℕ) (a b : Contents) → SaysContents project bytes a → SaysContents project bytes b → a ≡ b
says_one project bytes a b h k =
    contents_one project k.document a b
    (subst (λ d. IsContents project d a) (document_one bytes h.document k.document h.is_toml k.is_toml) h.are_contents)
    k.are_contents

-- an element of a list that is parted at it
pub contains_middle : {X : Type 0} (xs before : List X) (x : X) (after : List X) → xs ≡ before ++ x ∷ after → Contains xs x
contains_middle {X} xs before x after e = subst (λ ys. Contains ys x) (sym e) (middle before) where
  middle : (front : List X) → Contains (front ++ x ∷ after) x
  middle [] = (0, omega arith, refl)
  middle (y ∷ front) = let c = middle front in (suc c.0, omega (arith, c.1), c.2)

at_front : {X : Type 0} (before : List X) (x y d : X) (after : List X) (k : ℕ) → k < length before → get_or before k d ≡ y → (get_or (before ++ x ∷ after) k d ≡ y) × (k < length before)
at_front [] x y d after k h e = absurd (omega arith)
at_front (b ∷ before) x y d after zero h e = (e, h)
at_front (b ∷ before) x y d after (suc k) h e =
    let less : k < length before = omega arith in ((at_front before x y d after k less e).0, h)

at_middle : {X : Type 0} (before : List X) (x d : X) (after : List X) → (get_or (before ++ x ∷ after) (length before) d ≡ x) × (length before < length (before ++ x ∷ after))
at_middle [] x d after = (refl, omega arith)
at_middle (b ∷ before) x d after = let m = at_middle before x d after in (m.0, omega (arith, m.1))

-- a list with a repeated name isn't one whose names differ
pub repeats : (names : List (List ℕ)) (name : List ℕ) → IsFirstRepeated names name → AllDiffer names → ⊥
repeats names name r differ =
    let c = r.earlier in
    let all : AllDiffer (r.before ++ name ∷ r.after) = subst AllDiffer r.split differ in
    let front = at_front r.before name name name r.after c.0 c.1 c.2 in
    let middle = at_middle r.before name name r.after in
    all c.0 (length r.before) name c.1 middle.1 (front.0 ∙ sym middle.0)

pub no_unlisted : (listed : List (List ℕ)) (document : Members) (key : List ℕ) → AllListed listed document → IsFirstUnlisted listed document key → ⊥
no_unlisted listed document key all first =
    both_ways (is_listed listed key) first.unlisted
    (All-contains (λ k. is_listed listed k ≡ true) (keys_of document) key all first.stands)

pub no_shape_fault : (project : List ℕ) (document : Members) (key : List ℕ) (contents : Contents) → IsContents project document contents → IsShapeFault project document key → ⊥
no_shape_fault project document key contents h (unlisted first) = no_unlisted document_keys document key h.keys first
no_shape_fault project document key contents h (bad_features is keys none) = none contents.features h.features
no_shape_fault project document key contents h (bad_constraints is keys fs f none) = none contents.constraints h.constraints
no_shape_fault project document key contents h (bad_headers is keys fs f cs c none) = none contents.headers h.headers
no_shape_fault project document key contents h (bad_units is keys fs f cs c hs g none) = none contents.units h.units

pub no_unlawful : (names : List (List ℕ)) (name : List ℕ) → AreFeatureNames names → IsFirstUnlawful names name → ⊥
no_unlawful names name lawful first =
    both_ways (is_new_name name) first.unlawful
    (All-contains (λ n. is_new_name n ≡ true) names name lawful (contains_middle names first.before name first.after first.split))

pub no_duplicate : (contents : Contents) (name : List ℕ) → NamesOnce contents → IsDuplicate contents name → ⊥
no_duplicate contents name once (inl r) = repeats contents.features name r once.features
no_duplicate contents name once (inr r) = repeats (files_of contents) name r.1 once.files

no_bad_text : (name : List ℕ) (contents : Contents) (project : PlainProject) (place : ℕ) → IsProjectOf name contents project → IsFirstBadText contents.features (texts_of contents) place → ⊥
no_bad_text name contents project place p bad =
    let lawful : All (IsLawful contents.features) (texts_of contents) =
    All-append (IsLawful contents.features) (map Some contents.constraints) (map (λ u. u.when) contents.units)
    (lawful_model contents.features contents.constraints project.model p.model)
    (lawful_units contents.features contents.units project.units p.units)
    in
    bad.bad
    (All-contains (IsLawful contents.features) (texts_of contents) (Some bad.text) lawful
    (contains_middle (texts_of contents) bad.before (Some bad.text) bad.after bad.split))

pub no_fault : ProjectsHaveNoFault
no_fault name bytes project (size n) p f = let s = p.says.short in omega (arith, s, f.1)
no_fault name bytes project not_toml p f = f.1 p.says.document p.says.is_toml
no_fault name bytes project (shape key) p f =
    no_shape_fault name p.says.document key p.contents p.says.are_contents
    (subst (λ d. IsShapeFault name d key) (document_one bytes f.document p.says.document f.is_toml p.says.is_toml) f.fault)
no_fault name bytes project (feature n) p f =
    no_unlawful p.contents.features n p.lawful
    (subst (λ c. IsFirstUnlawful c.features n) (says_one name bytes f.0 p.contents f.1 p.says) f.2)
no_fault name bytes project (duplicate n) p f =
    no_duplicate p.contents n p.once
    (subst (λ c. IsDuplicate c n) (says_one name bytes f.0 p.contents f.1 p.says) f.3)
no_fault name bytes project (constraint place) p f =
    no_bad_text name p.contents project place p.project_is
    (subst (λ c. IsFirstBadText c.features (texts_of c) place) (says_one name bytes f.0 p.contents f.1 p.says) f.4)
