-- The features that are on, one by one.
use Rattle.std.proofs.Common.{◌≡◌, ℕ, ◌+◌, ◌<◌, ◌≤◌, Bool, true, false, List, ◌∷◌, length, get_or, map, drop, Option, Some, refl, ap, sym, ◌∙◌}
use Rattle.std.specs.Prelude.{if◌then◌else◌, ◌||◌}
use Rattle.std.specs.List.{list_any}
use Rattle.std.specs.Str.{bytes_eq}
use Rattle.std.proofs.Math.Path.{fun_ext}
use Rattle.std.proofs.lemmas.List.{drop_more, drop_all}
use Rattle.c_text.specs.Macros.{Table, Meaning, feature}
use Rattle.c_text.specs.Preprocessing.{Reading, feature_token}
use Rattle.project_file.specs.Projects.{names_from}
use Rattle.plain_pp.specs.Features.{with_names, with_feature}

abbrev on_token : Option Meaning
on_token = Some (feature feature_token)

either : (a b : Bool) (other : Option Meaning) → (if b then on_token else if a then on_token else other) ≡ (if a || b then on_token else other)
either true true other = refl
either true false other = refl
either false true other = refl
either false false other = refl

with-one : (name : List ℕ) (names : List (List ℕ)) (r : Reading) → with_names names (with_feature name r) ≡ with_names (name ∷ names) r
with-one name names r =
    ap (λ (table : Table). let v : Reading = record { table = table; tokens = r.tokens } in v) (fun_ext (λ other. either (bytes_eq other name) (list_any (bytes_eq other) names) (r.table other)))

pub feature-step : (on : ℕ → Bool) (i : ℕ) (name : List ℕ) (rest : List (List ℕ)) (old new : Reading) → new ≡ (if on i then with_feature name old else old) → with_names (names_from (i + 1) on rest) new ≡ with_names (names_from i on (name ∷ rest)) old
feature-step on i name rest old new h = by_cases (on i) h
  where
    by_cases :
        (b : Bool) → new ≡ (if b then with_feature name old else old)
        → with_names (names_from (i + 1) on rest) new ≡ with_names (if b then name ∷ names_from (i + 1) on rest else names_from (i + 1) on rest) old
    by_cases true e = ap (λ (r : Reading). with_names (names_from (i + 1) on rest) r) e ∙ with-one name (names_from (i + 1) on rest) old
    by_cases false e = ap (λ (r : Reading). with_names (names_from (i + 1) on rest) r) e

pub feature-next : {X : Type 0} (f : X → List ℕ) (on : ℕ → Bool) (i : ℕ) (features : List X) (item : X) (old new : Reading) → i < length features → item ≡ get_or features i item → new ≡ (if on i then with_feature (f item) old else old) → with_names (names_from (i + 1) on (map f (drop (i + 1) features))) new ≡ with_names (names_from i on (map f (drop i features))) old
feature-next f on i features item old new h is e =
    feature-step on i (f item) (map f (drop (i + 1) features)) old new e
    ∙ ap (λ xs. with_names (names_from i on (map f xs)) old) (sym (drop_more features i item h ∙ ap (λ x. x ∷ drop (i + 1) features) (sym is)))

pub feature-end : {X : Type 0} (f : X → List ℕ) (on : ℕ → Bool) (i : ℕ) (features : List X) (r : Reading) → length features ≤ i → r ≡ with_names (names_from i on (map f (drop i features))) r
feature-end f on i features r h = ap (λ xs. with_names (names_from i on (map f xs)) r) (sym (drop_all i features h))
