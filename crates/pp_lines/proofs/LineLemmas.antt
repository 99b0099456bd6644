-- What the end of a list of tokens says, and the end of parameters.
use Rattle.std.proofs.Common.{◌≡◌, ℕ, zero, suc, ◌+◌, ◌-◌, ◌<◌, ◌≤◌, List, [], ◌∷◌, append-nil, length, get_or, drop, map, Some, true, false, refl, ap, ◌∙◌, arith}
use Rattle.std.specs.Prelude.{codes, nat_lt}
use Rattle.c_text.specs.declared.token.Token.{Token}
use Rattle.c_text.specs.Token.{PlainToken, plain_token}
use Rattle.c_text.specs.Directives.{is_spelled, ends_with_angle, parameters}
use Rattle.pp_lines.specs.ParameterPlaces.{parameters_from, is_behind_dots, closes, with_names}
use Rattle.pp_lines.specs.declared.parameters.Place.{Place}
use Rattle.pp_lines.specs.declared.parameters.Place.TheVariants.{Beginning, BeforeName, BehindName, BehindDots, Nowhere}

pub last-angle : (ts : List Token) (d : Token) (i : ℕ) → length ts ≡ suc (suc i) → is_spelled (codes ">") (plain_token (get_or ts (suc i) d)) ≡ ends_with_angle (map plain_token ts)
last-angle [] d i h = absurd (omega arith)
last-angle (a ∷ []) d i h = absurd (omega arith)
last-angle (a ∷ b ∷ []) d zero h = refl
last-angle (a ∷ b ∷ []) d (suc i) h = absurd (omega arith)
last-angle (a ∷ b ∷ e ∷ ts) d zero h = absurd (omega arith)
last-angle (a ∷ b ∷ e ∷ ts) d (suc i) h = last-angle (b ∷ e ∷ ts) d i (omega arith)

pub last-angle_at : (ts : List Token) (d : Token) → 1 < length ts → d ≡ get_or ts (length ts - 1) d → is_spelled (codes ">") (plain_token d) ≡ ends_with_angle (map plain_token ts)
last-angle_at ts d h e =
    let k : length ts - 1 ≡ suc (length ts - 2) = omega arith in
    ap (λ (x : Token). is_spelled (codes ">") (plain_token x)) (e ∙ ap (λ n. get_or ts n d) k)
    ∙ last-angle ts d (length ts - 2) (omega arith)

pub no_angle : (ts : List Token) → length ts ≤ 1 → nat_lt 1 (length ts) ≡ ends_with_angle (map plain_token ts)
no_angle [] h = refl
no_angle (a ∷ []) h = refl
no_angle (a ∷ b ∷ ts) h = absurd (omega arith)

-- no parameter stands behind `)`
closed : (names : List (List ℕ)) (place : Place) (token : PlainToken) (rest : List PlainToken) → closes place token ≡ true → with_names names (parameters_from place (token ∷ rest)) ≡ Some (parameters names (is_behind_dots place) rest)
closed names Beginning token rest h = rw h (ap (λ ns. Some (parameters ns false rest)) (append-nil names))
closed names BeforeName token rest h = cc
closed names BehindName token rest h = rw h (ap (λ ns. Some (parameters ns false rest)) (append-nil names))
closed names BehindDots token rest h = rw h (ap (λ ns. Some (parameters ns true rest)) (append-nil names))
closed names Nowhere token rest h = cc

drop-here : (ts body : List Token) (i : ℕ) (t : Token) → i < length ts → t ≡ get_or ts i t → body ≡ drop (suc i) ts → drop i ts ≡ t ∷ body
drop-here [] body i t h e b = absurd (omega arith)
drop-here (x ∷ ts) body zero t h e b = cc
drop-here (x ∷ ts) body (suc i) t h e b = drop-here ts body i t (omega arith) e b

pub closed_at : (names : List (List ℕ)) (place : Place) (ts body : List Token) (i : ℕ) (t : Token) → i < length ts → t ≡ get_or ts i t → body ≡ drop (i + 1) ts → closes place (plain_token t) ≡ true → with_names names (parameters_from place (map plain_token (drop i ts))) ≡ Some (parameters names (is_behind_dots place) (map plain_token body))
closed_at names place ts body i t h e b closing =
    let k : i + 1 ≡ suc i = omega arith in
    ap (λ (xs : List Token). with_names names (parameters_from place (map plain_token xs))) (drop-here ts body i t h e (b ∙ ap (λ n. drop n ts) k))
    ∙ closed names place (plain_token t) (map plain_token body) closing
