-- Projects that are alike have alike units.
use Rattle.std.proofs.Common.{◌≡◌, ℕ, ◌+◌, Bool, true, false, List, [], ◌∷◌, Some, Option, refl, sym, ◌∙◌, ap, subst}
use Rattle.std.specs.Str.{bytes_eq}
use Rattle.text_edits.specs.Files.{PlainFile}
use Rattle.cond_formula.specs.Conditions.{value}
use Rattle.c_text.specs.Preprocessing.{Sources}
use Rattle.project_file.specs.Projects.{PlainUnit, PlainProject}
use Rattle.project_file.specs.Laws.{Alike, AreAlike}
use Rattle.plain_pp.specs.Units.{sources_of}
use Rattle.command_projects.specs.Products.{are_features}
use Rattle.command_tokens.specs.Words.{UnitQuery}
use Rattle.command_tokens.specs.Tokens.{NumberedUnit, numbered, unit_from, FitsProject}

-- units that are alike have the same numbers and presence
pub record SameUnit (x y : NumberedUnit) : Type 0 where
  pub number : x.number ≡ y.number
  pub presence : (on : ℕ → Bool) → value on x.unit.when ≡ value on y.unit.when

record FoundAlike (n : ℕ) (file : List ℕ) (units : List PlainUnit) (x : NumberedUnit) : Type 0 where
  pub unit : NumberedUnit
  pub is : unit_from n file units ≡ Some unit
  pub same : SameUnit x unit

-- by whether the first unit is the one
found_by : (b : Bool) (n : ℕ) (file : List ℕ) (u v : PlainUnit) (us vs : List PlainUnit) (x : NumberedUnit) → bytes_eq u.file file ≡ b → u.file ≡ v.file → ((on : ℕ → Bool) → value on u.when ≡ value on v.when) → (unit_from (n + 1) file us ≡ Some x → FoundAlike (n + 1) file vs x) → unit_from n file (u ∷ us) ≡ Some x → FoundAlike n file (v ∷ vs) x
found_by true n file u v us vs x is name presence later e =
    let first : ◌≡◌ {A = Option NumberedUnit} (Some (numbered n u)) (Some x) = rw is at e in
    let x_is : numbered n u ≡ x = cc in
    let g : bytes_eq v.file file ≡ true = sym (ap (λ f. bytes_eq f file) name) ∙ is in
    record {
      unit = numbered n v;
      is = rw g refl;
      same = subst (λ y. SameUnit y (numbered n v)) x_is (record { number = refl; presence = presence });
    }
found_by false n file u v us vs x is name presence later e =
    let rest : unit_from (n + 1) file us ≡ Some x = rw is at e in
    let r = later rest in
    let g : bytes_eq v.file file ≡ false = sym (ap (λ f. bytes_eq f file) name) ∙ is in
    record { unit = r.unit; is = rw g r.is; same = r.same }

unit_alike : (n : ℕ) (file : List ℕ) (us vs : List PlainUnit) (x : NumberedUnit) → AreAlike us vs → unit_from n file us ≡ Some x → FoundAlike n file vs x
unit_alike n file [] [] x a e = cc
unit_alike n file [] (v ∷ vs) x a e = cc
unit_alike n file (u ∷ us) [] x a e = absurd a
unit_alike n file (u ∷ us) (v ∷ vs) x a e =
    found_by (bytes_eq u.file file) n file u v us vs x refl a.0 a.1 (unit_alike (n + 1) file us vs x a.2) e

-- words that fit a project fit each one that is alike
pub record FitAlike (q : UnitQuery) (project : PlainProject) (x : NumberedUnit) : Type 0 where
  pub unit : NumberedUnit
  pub fits : FitsProject q project unit
  pub same : SameUnit x unit

pub fit_alike : (q : UnitQuery) (a b : PlainProject) (x : NumberedUnit) → Alike a b → FitsProject q a x → FitAlike q b x
fit_alike q a b x alike h =
    let r = unit_alike 0 q.unit a.units b.units x alike.units h.unit in
    record {
      unit = r.unit;
      fits = record { unit = r.is; known = ap (λ features. are_features features q.names) (sym alike.features) ∙ h.known };
      same = r.same;
    }

pub same_unit : (q : UnitQuery) (a b : PlainProject) (x y : NumberedUnit) → Alike a b → FitsProject q a x → FitsProject q b y → SameUnit x y
same_unit q a b x y like h k =
    let r = fit_alike q a b x like h in
    let e : ◌≡◌ {A = Option NumberedUnit} (Some r.unit) (Some y) = sym r.fits.unit ∙ k.unit in
    let is : r.unit ≡ y = cc in
    subst (λ u. SameUnit x u) is r.same

pub same_sources_of : (a b : PlainProject) (files : List PlainFile) (on : ℕ → Bool) → Alike a b → sources_of a files on ≡ sources_of b files on
same_sources_of a b files on like =
    let by : List (List ℕ) → List (List ℕ) → Sources = λ headers features. sources_of (record a { headers = headers; features = features }) files on in
    ap (λ hs. by hs a.features) like.headers ∙ ap (λ ns. by b.headers ns) like.features
