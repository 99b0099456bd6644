-- Texts over features: lawful ones, and the first that isn't.
use Rattle.std.proofs.Common.{◌≡◌, ℕ, zero, suc, ◌+◌, ◌<◌, Bool, true, not, cond, length, take, drop, get_or, List, [], ◌∷◌, ◌++◌, map, Option, Some, None, String, Global, string_bytes, refl, sym, ap, subst, ◌∙◌, arith}
use Rattle.std.specs.Option.{is_some}
use Rattle.std.specs.List.{All, position, position_or_len, prefix_len}
use Rattle.std.specs.Str.{bytes_eq}
use Rattle.std.proofs.lemmas.Bool.{both_ways}
use Rattle.std.proofs.lemmas.List.{map-append, append_assoc}
use Rattle.std.proofs.lemmas.List.Elements.{All-nil, All-cons, All-append}
use Rattle.cond_formula.specs.Conditions.{Condition, VarsBelow}
use Rattle.feature_model.specs.Trees.{Tree, named, inverse, grouped, both, either, implies, equals, feature_number, is_known}
use Rattle.feature_model.specs.Laws.{TreeIsOne}
use Rattle.feature_model.specs.Constraints.{IsConstraint, IsOver, AreOver, NamesAnother, WhyRefused, FirstRefused, WhyNoModel, Says, Admits}
use Rattle.feature_model.specs.declared.errors.ModelError.{ModelError}
use Rattle.feature_model.specs.declared.errors.ModelError.TheVariants.{Syntax, UnknownFeature, TooMany, Memory}
use Rattle.project_file.specs.Contents.{UnitText, Contents, texts_of}
use Rattle.project_file.specs.Texts.{IsConstraintOver, IsLawful, HasPresence, IsPresence, IsModelOf}
use Rattle.project_file.specs.Projects.{PlainUnit, AreUnits}
use Rattle.project_file.specs.Faults.{Fault, size, not_toml, shape, feature, duplicate, constraint}
use Rattle.project_file.specs.View.{Why}
use Rattle.project_file.specs.declared.errors.ProjectError.{ProjectError}
use Rattle.project_file.proofs.Whys.{Why-weaker}
use Rattle.project_file.proofs.NameLemmas.{map-parted, map-next}
use Rattle.project_file.specs.Checks.{IsFaultOfTexts, IsFaultOfText, IsFaultOfUnits, IsUnitOf, refusal_of, refusal_at}

pub length-map : {X Y : Type 0} (f : X → Y) (xs : List X) → length (map f xs) ≡ length xs
length-map f [] = refl
length-map f (x ∷ xs) = ap suc (length-map f xs)

prefix_len-map : {X Y : Type 0} (p : Y → Bool) (f : X → Y) (xs : List X) → prefix_len (λ x. p (f x)) xs ≡ prefix_len p (map f xs)
prefix_len-map p f [] = refl
prefix_len-map p f (x ∷ xs) = ap (λ n. cond (p (f x)) (1 + n) 0) (prefix_len-map p f xs)

position_or_len-map : {X Y : Type 0} (p : Y → Bool) (f : X → Y) (xs : List X) → position_or_len (λ x. p (f x)) xs ≡ position_or_len p (map f xs)
position_or_len-map p f xs = prefix_len-map (λ y. not (p y)) f xs

position-map : {X Y : Type 0} (p : Y → Bool) (f : X → Y) (xs : List X) → position (λ x. p (f x)) xs ≡ position p (map f xs)
position-map p f xs = rw (position_or_len-map p f xs, length-map f xs)

-- a name's number depends on the spelling of the features alone
pub number_spelled : (a b : List (String Global)) (name : List ℕ) → map string_bytes a ≡ map string_bytes b → feature_number a name ≡ feature_number b name
number_spelled a b name e =
    position-map (λ f. bytes_eq f name) string_bytes a ∙ ap (λ names. position (λ f. bytes_eq f name) names) e
    ∙ sym (position-map (λ f. bytes_eq f name) string_bytes b)

known_spelled : (a b : List (String Global)) (tree : Tree) → map string_bytes a ≡ map string_bytes b → is_known a tree ≡ is_known b tree
known_spelled a b (named name) e = ap is_some (number_spelled a b name e)
known_spelled a b (inverse t) e = known_spelled a b t e
known_spelled a b (grouped t) e = known_spelled a b t e
known_spelled a b (both t u) e = rw (known_spelled a b t e, known_spelled a b u e)
known_spelled a b (either t u) e = rw (known_spelled a b t e, known_spelled a b u e)
known_spelled a b (implies t u) e = rw (known_spelled a b t e, known_spelled a b u e)
known_spelled a b (equals t u) e = rw (known_spelled a b t e, known_spelled a b u e)

no_syntax : (names : List (List ℕ)) (text : List ℕ) → ((tree : Tree) → IsConstraint text tree → ⊥) → IsConstraintOver names text → ⊥
no_syntax names text none is = none is.tree is.over.constraint

no_known : TreeIsOne → (features : List (String Global)) (text : List ℕ) → NamesAnother features text → IsConstraintOver (map string_bytes features) text → ⊥
no_known one features text another is =
    let same : is.tree ≡ another.tree = one text is.tree another.tree is.over.constraint another.constraint in
    let known : is_known features another.tree ≡ true =
    known_spelled features is.features another.tree (sym is.spelled) ∙ ap (λ t. is_known is.features t) (sym same) ∙ is.over.known
    in
    both_ways (is_known features another.tree) another.unknown known

-- a text that is refused is no constraint
not_lawful : TreeIsOne → (features : List (String Global)) (text : List ℕ) (place : ℕ) (error : ModelError) → WhyRefused features text place error
    → (at : ℕ) → Why (IsFaultOfText (map string_bytes features) (Some text) at) ⊥ (refusal_at error at)
not_lawful one features text place (Syntax n) why at = (refl, no_syntax (map string_bytes features) text why.1)
not_lawful one features text place (UnknownFeature n) why at = (refl, no_known one features text why.1)
not_lawful one features text place TooMany why at = absurd why
not_lawful one features text place Memory why at = tt

pub refused_text : TreeIsOne → (features : List (String Global)) (text : List ℕ) (error : ModelError) → WhyRefused features text 1 error
    → (at : ℕ) → Why (IsFaultOfText (map string_bytes features) (Some text) at) ⊥ (refusal_at error at)
refused_text one features text error why at = not_lawful one features text 1 error why at

over_lawful : (features : List (String Global)) (text : String Global) (tree : Tree) → IsOver features (string_bytes text) tree → IsLawful (map string_bytes features) (Some (string_bytes text))
over_lawful features text tree over = record { features = features; spelled = refl; tree = tree; over = over }

lawful_all : (features texts : List (String Global)) (trees : List Tree) → AreOver features texts trees → All (IsLawful (map string_bytes features)) (map Some (map string_bytes texts))
lawful_all features [] trees h = All-nil (IsLawful (map string_bytes features))
lawful_all features (text ∷ texts) [] h = absurd h
lawful_all features (text ∷ texts) (tree ∷ trees) h =
    All-cons (IsLawful (map string_bytes features)) (Some (string_bytes text)) (map Some (map string_bytes texts))
    (over_lawful features text tree h.0) (lawful_all features texts trees h.1)

abbrev some_bytes : List (String Global) → List (Option (List ℕ))
some_bytes texts = map Some (map string_bytes texts)

some_bytes-append : (a b : List (String Global)) → some_bytes (a ++ b) ≡ some_bytes a ++ some_bytes b
some_bytes-append [] b = refl
some_bytes-append (x ∷ a) b = ap (λ ts. Some (string_bytes x) ∷ ts) (some_bytes-append a b)

length-some_bytes : (a : List (String Global)) → length (some_bytes a) ≡ length a
length-some_bytes [] = refl
length-some_bytes (x ∷ a) = ap suc (length-some_bytes a)

first_bad : TreeIsOne → (features texts : List (String Global)) (error : ModelError) → FirstRefused features texts error
    → Why (IsFaultOfTexts (map string_bytes features) (some_bytes texts)) ⊥ (refusal_of error)
first_bad one features texts (Syntax n) f = record {
  before = some_bytes f.before;
  text = string_bytes f.text;
  after = some_bytes f.after;
  split = ap some_bytes f.split ∙ some_bytes-append f.before (f.text ∷ f.after);
  place_is = f.why.0 ∙ ap suc (sym (length-some_bytes f.before));
  lawful = lawful_all features f.before f.trees f.over;
  bad = no_syntax (map string_bytes features) (string_bytes f.text) f.why.1;
}
first_bad one features texts (UnknownFeature n) f = record {
  before = some_bytes f.before;
  text = string_bytes f.text;
  after = some_bytes f.after;
  split = ap some_bytes f.split ∙ some_bytes-append f.before (f.text ∷ f.after);
  place_is = f.why.0 ∙ ap suc (sym (length-some_bytes f.before));
  lawful = lawful_all features f.before f.trees f.over;
  bad = no_known one features (string_bytes f.text) f.why.1;
}
first_bad one features texts TooMany f = absurd f.why
first_bad one features texts Memory f = tt

pub no_model : TreeIsOne → (features texts : List (String Global)) (error : ModelError) → length features < 129 → WhyNoModel features texts error
    → Why (IsFaultOfTexts (map string_bytes features) (some_bytes texts)) ⊥ (refusal_of error)
no_model one features texts (Syntax n) few why = first_bad one features texts (Syntax n) why.1
no_model one features texts (UnknownFeature n) few why = first_bad one features texts (UnknownFeature n) why.1
no_model one features texts TooMany few why = absurd (omega (arith, why))
no_model one features texts Memory few why = tt

-- the constraints of a model are lawful
pub lawful_model : (names constraints : List (List ℕ)) (condition : Condition) → IsModelOf names constraints condition → All (IsLawful names) (map Some constraints)
lawful_model names constraints condition m =
    subst (λ ns. All (IsLawful ns) (map Some constraints)) m.spelled
    (subst (λ ts. All (IsLawful (map string_bytes m.features)) (map Some ts)) m.texts_spelled
    (lawful_all m.features m.texts m.admits.trees m.admits.over))

-- a unit's text is lawful where its condition is known
lawful_presence : (names : List (List ℕ)) (when : Option (List ℕ)) (condition : Condition) → HasPresence names when condition → IsLawful names when
lawful_presence names None condition h = tt
lawful_presence names (Some text) condition h =
    record { features = h.features; spelled = h.spelled; tree = h.says.tree; over = h.says.over }

pub lawful_units : (names : List (List ℕ)) (texts : List UnitText) (units : List PlainUnit) → AreUnits names texts units → All (IsLawful names) (map (λ u. u.when) texts)
lawful_units names [] units h = All-nil (IsLawful names)
lawful_units names (t ∷ texts) [] h = absurd h
lawful_units names (t ∷ texts) (u ∷ units) h =
    All-cons (IsLawful names) t.when (map (λ u. u.when) texts) (lawful_presence names t.when u.when h.1.value_is) (lawful_units names texts units h.2)

units-push : (names : List (List ℕ)) (texts : List UnitText) (units : List PlainUnit) (t : UnitText) (u : PlainUnit) → AreUnits names texts units → IsUnitOf names t u → AreUnits names (texts ++ t ∷ []) (units ++ u ∷ [])
units-push names [] [] t u h is = (is.0, is.1, tt)
units-push names [] (v ∷ units) t u h is = absurd h
units-push names (s ∷ texts) [] t u h is = absurd h
units-push names (s ∷ texts) (v ∷ units) t u h is = (h.0, h.1, units-push names texts units t u h.2 is)

when_is : (names : List (List ℕ)) (when : Option (List ℕ)) → (IsLawful names when → ⊥) → (text : List ℕ) × (when ≡ Some text)
when_is names None bad = absurd (bad tt)
when_is names (Some text) bad = (text, refl)

-- a unit whose text is no constraint is the first such
pub first_bad_unit : (names : List (List ℕ)) (texts front rest : List UnitText) (t : UnitText) (units : List PlainUnit) (before place : ℕ)
    → texts ≡ front ++ t ∷ rest → AreUnits names front units → place ≡ before + suc (length front)
    → (fault : Fault) → IsFaultOfText names t.when place fault → IsFaultOfUnits names texts before fault
first_bad_unit names texts front rest t units before place split so_far at (size n) h = h
first_bad_unit names texts front rest t units before place split so_far at not_toml h = h
first_bad_unit names texts front rest t units before place split so_far at (shape n) h = h
first_bad_unit names texts front rest t units before place split so_far at (feature n) h = h
first_bad_unit names texts front rest t units before place split so_far at (duplicate n) h = h
first_bad_unit names texts front rest t units before place split so_far at (constraint n) h =
    let w = when_is names t.when h.1 in
    let when : UnitText → Option (List ℕ) = λ u. u.when in (
      suc (length front),
      h.0 ∙ at,
      record {
        before = map when front;
        text = w.0;
        after = map when rest;
        split =
            ap (map when) split ∙ map-append when front (t ∷ rest)
            ∙ ap (λ x. map when front ++ x ∷ map when rest) w.1;
        place_is = ap suc (sym (length-map when front));
        lawful = lawful_units names front units so_far;
        bad = λ is. h.1 (subst (IsLawful names) (sym w.1) is);
      },
    )

-- a fault of the constraints is one of all texts
pub constraints_first : (contents : Contents) (fault : Fault) → IsFaultOfTexts contents.features (map Some contents.constraints) fault → IsFaultOfTexts contents.features (texts_of contents) fault
constraints_first contents (size n) h = h
constraints_first contents not_toml h = h
constraints_first contents (shape n) h = h
constraints_first contents (feature n) h = h
constraints_first contents (duplicate n) h = h
constraints_first contents (constraint n) h =
    let units : List (Option (List ℕ)) = map (λ u. u.when) contents.units in
    record {
      before = h.before;
      text = h.text;
      after = h.after ++ units;
      split = ap (λ ts. ts ++ units) h.split ∙ append_assoc h.before (Some h.text ∷ h.after) units;
      place_is = h.place_is;
      lawful = h.lawful;
      bad = h.bad;
    }

length-append : {X : Type 0} (a b : List X) → length (a ++ b) ≡ length a + length b
length-append [] b = omega arith
length-append (x ∷ a) b = let e = length-append a b in omega arith

-- behind lawful constraints a fault of the units is one of all texts
pub units_next : (contents : Contents) (condition : Condition) → IsModelOf contents.features contents.constraints condition
    → (fault : Fault) → IsFaultOfUnits contents.features contents.units (length contents.constraints) fault → IsFaultOfTexts contents.features (texts_of contents) fault
units_next contents condition m (size n) h = h
units_next contents condition m not_toml h = h
units_next contents condition m (shape n) h = h
units_next contents condition m (feature n) h = h
units_next contents condition m (duplicate n) h = h
units_next contents condition m (constraint n) h =
    let constraints : List (Option (List ℕ)) = map Some contents.constraints in
    let first = h.2 in
    record {
      before = constraints ++ first.before;
      text = first.text;
      after = first.after;
      split = ap (λ ts. constraints ++ ts) first.split ∙ sym (append_assoc constraints first.before (Some first.text ∷ first.after));
      place_is =
          let a = length-append constraints first.before in
          let b = length-map {Y = Option (List ℕ)} Some contents.constraints in
          let p = first.place_is in
          omega (arith, h.1, p, a, b);
      lawful =
          All-append (IsLawful contents.features) constraints first.before
          (lawful_model contents.features contents.constraints condition m) first.lawful;
      bad = first.bad;
    }

length-take-map : {X Y : Type 0} (f : X → Y) (xs : List X) (i : ℕ) → i < length xs → length (map f (take i xs)) ≡ i
length-take-map f [] i h = absurd (omega arith)
length-take-map f (x ∷ xs) zero h = refl
length-take-map f (x ∷ xs) (suc i) h = let e = length-take-map f xs i (omega arith) in omega arith

pub unit_fault : {X : Type 0} (f : X → UnitText) (names : List (List ℕ)) (texts : List X) (i : ℕ) (x : X) (units : List PlainUnit) (before : ℕ) (error : ProjectError)
    → i < length texts → x ≡ get_or texts i x → AreUnits names (map f (take i texts)) units
    → Why (IsFaultOfText names (f x).when (before + i + 1)) ⊥ error → Why (IsFaultOfUnits names (map f texts) before) ⊥ error
unit_fault f names texts i x units before error h is so_far why =
    let at : before + i + 1 ≡ before + suc (length (map f (take i texts))) = omega (arith, length-take-map f texts i h) in
    Why-weaker (IsFaultOfText names (f x).when (before + i + 1)) (IsFaultOfUnits names (map f texts) before) ⊥ ⊥ error
    (first_bad_unit names (map f texts) (map f (take i texts)) (map f (drop (suc i) texts)) (f x) units before (before + i + 1) (map-parted f texts i x h is) so_far at)
    (λ bad. bad) why

pub units_more : {X Y : Type 0} (f : X → UnitText) (g : Y → PlainUnit) (names : List (List ℕ)) (texts : List X) (i : ℕ) (x : X) (units : List Y) (u : Y)
    → i < length texts → x ≡ get_or texts i x → AreUnits names (map f (take i texts)) (map g units) → IsUnitOf names (f x) (g u)
    → AreUnits names (map f (take (i + 1) texts)) (map g (units ++ u ∷ []))
units_more f g names texts i x units u h is so_far unit =
    rw (map-next f texts i x h is, map-append g units (u ∷ []))
    (units-push names (map f (take i texts)) (map g units) (f x) (g u) so_far unit)

-- the condition of a text is that of a unit, and the condition of constraints that of a model
pub presence_of : (features : List (String Global)) (text : List ℕ) (condition : Condition) → Says features text condition → IsPresence (map string_bytes features) (Some text) condition
presence_of features text condition says = record {
  value_is = record { features = features; spelled = refl; says = says };
  below = subst (λ n. VarsBelow n condition) (sym (length-map string_bytes features)) says.below;
}

pub model_is : (features texts : List (String Global)) (condition : Condition) → Admits features texts condition → IsModelOf (map string_bytes features) (map string_bytes texts) condition
model_is features texts condition admits = record {
  features = features;
  spelled = refl;
  texts = texts;
  texts_spelled = refl;
  admits = admits;
  below = subst (λ n. VarsBelow n condition) (sym (length-map string_bytes features)) admits.below;
}
