-- The features of a name, while they are read.
use Rattle.std.proofs.Common.{◌≡◌, ℕ, suc, ◌+◌, ◌<◌, Bool, true, false, ◌&&◌, ◌||◌, List, ◌∷◌, map, drop, length, get_or, refl, sym, ap, ◌∙◌, add-one, drop-cons}
use Rattle.std.specs.Str.{bytes_eq}
use Rattle.std.proofs.Math.Bool.{or_assoc}
use Rattle.macro_table.specs.Features.{is_feature_on}

pub never_added : (a b : Bool) → b ≡ false → a ≡ (a || b)
never_added true b h = refl
never_added false b h = sym h

-- one more feature
pub feature_step : {S : Type 0} (text : S → List ℕ) (on : ℕ → Bool) (name : List ℕ) (xs : List S) (x : S) (i : ℕ) (a new all : Bool) → i < length xs → x ≡ get_or xs i x →
    new ≡ (a || (bytes_eq name (text x) && on i)) → (a || is_feature_on on i (map text (drop i xs)) name) ≡ all →
    (new || is_feature_on on (i + 1) (map text (drop (i + 1) xs)) name) ≡ all
feature_step {S} text on name xs x i a new all within is added before =
    let e : drop i xs ≡ x ∷ drop (suc i) xs = rw (drop-cons xs i x within) (ap (λ (y : S). y ∷ drop (suc i) xs) (sym is)) in
    let before' = rw e at before in
    rw (add-one)
    (ap (λ (b : Bool). b || is_feature_on on (suc i) (map text (drop (suc i) xs)) name) added
    ∙ or_assoc a (bytes_eq name (text x) && on i) (is_feature_on on (suc i) (map text (drop (suc i) xs)) name)
    ∙ before')
