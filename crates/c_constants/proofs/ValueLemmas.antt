-- The bytes between two quotes, a value at a time.
use Rattle.std.proofs.Common.{◌≡◌, ℕ, zero, suc, ◌+◌, ◌-◌, ◌<◌, ◌==◌, Bool, true, false, cond, List, [], ◌∷◌, ◌++◌, length, get_or, drop, Option, Some, None, refl, sym, ap, ◌∙◌, append_assoc, arith}
use Rattle.std.specs.Option.{option_map}
use Rattle.std.proofs.lemmas.List.{at_drop_more}
use Rattle.c_text.specs.Constants.{Escape, escape_at, is_source_byte, values_from, by_escape, with_value}
use Rattle.c_constants.specs.Values.{value_at}

-- a byte that belongs to an escape before it
skip_one : (more b : ℕ) (rest : List ℕ) → 0 < more → values_from more (b ∷ rest) ≡ values_from (more - 1) rest
skip_one zero b rest pos = absurd (omega arith)
skip_one (suc m) b rest pos =
    let one : m ≡ suc m - 1 = omega arith in
    ap (λ n. values_from n rest) one

pub values_from-skip : (bs : List ℕ) (i more : ℕ) → i < length bs → 0 < more → values_from (more - 1) (drop (i + 1) bs) ≡ values_from more (drop i bs)
values_from-skip bs i more lt pos =
    sym (at_drop_more (values_from more) bs i 0 lt ∙ skip_one more (get_or bs i 0) (drop (i + 1) bs) pos)

-- a byte at which a value begins
begin_as : (b : ℕ) (rest : List ℕ) (s t : Bool) → cond s (by_escape (escape_at rest) (λ more. values_from more rest)) (cond t (with_value b (values_from 0 rest)) None) ≡ by_escape (cond s (escape_at rest) (cond t (Some (record { value = b; length = 0 })) None)) (λ more. values_from more rest)
begin_as b rest true t = refl
begin_as b rest false true = refl
begin_as b rest false false = refl

begin_one : (b : ℕ) (rest : List ℕ) → values_from 0 (b ∷ rest) ≡ by_escape (value_at b rest) (λ more. values_from more rest)
begin_one b rest = begin_as b rest (b == 92) (is_source_byte b)

pub values_from-begin : (bs : List ℕ) (i more : ℕ) (e : Escape) → i < length bs → more ≡ 0 → Some e ≡ value_at (get_or bs i 0) (drop (i + 1) bs) → with_value e.value (values_from e.length (drop (i + 1) bs)) ≡ values_from more (drop i bs)
values_from-begin bs i more e lt none is =
    sym (ap (λ m. values_from m (drop i bs)) none ∙ at_drop_more (values_from 0) bs i 0 lt
    ∙ begin_one (get_or bs i 0) (drop (i + 1) bs)
    ∙ ap (λ o. by_escape o (λ m. values_from m (drop (i + 1) bs))) (sym is))

-- so many values, and those that are still to come
abbrev pub counted : ℕ → Option (List ℕ) → Option ℕ
counted count values = option_map (λ vs. count + length vs) values

pub counted-more : (count v : ℕ) (o : Option (List ℕ)) → counted (count + 1) o ≡ counted count (with_value v o)
counted-more count v None = refl
counted-more count v (Some vs) =
    let one : count + 1 + length vs ≡ count + suc (length vs) = omega arith in
    ap (λ n. Some n) one

-- these values, and those that are still to come
abbrev pub collected : List ℕ → Option (List ℕ) → Option (List ℕ)
collected front values = option_map (λ vs. front ++ vs) values

pub collected-more : (front : List ℕ) (v : ℕ) (o : Option (List ℕ)) → collected (front ++ v ∷ []) o ≡ collected front (with_value v o)
collected-more front v None = refl
collected-more front v (Some vs) = ap (λ xs. Some xs) (append_assoc front (v ∷ []) vs)
