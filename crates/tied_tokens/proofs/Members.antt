-- Members of lists.
use Rattle.std.proofs.Common.{◌≡◌, ℕ, zero, suc, ◌<◌, Bool, false, List, [], ◌∷◌, ◌++◌, length, map, take, get_or, inl, inr, refl, sym, ap, ◌+◌, ◌∙◌, arith}
use Rattle.std.specs.Prelude.{◌⊎◌, ◌↔◌, All, Contains, IsTrue}
use Rattle.std.proofs.lemmas.List.{take_more, map-append}
use Rattle.std.proofs.lemmas.List.Elements.{All-contains, Contains-append_left, Contains-append_right, Contains-push, Contains-push_cases, Contains-append_cases}

pub never : {b : Bool} → b ≡ false → IsTrue b → ⊥
never e h = cc

pub in_none : {X : Type 0} (x : X) → Contains [] x → ⊥
in_none x h = let low : h.0 < 0 = h.1 in absurd (omega (arith, low))

pub in_head : {X : Type 0} (x : X) (xs : List X) → Contains (x ∷ xs) x
in_head x xs = Contains-append_left (x ∷ []) xs x (Contains-push [] x)

pub in_tail : {X : Type 0} (y : X) (xs : List X) (x : X) → Contains xs x → Contains (y ∷ xs) x
in_tail y xs x h = Contains-append_right (y ∷ []) xs x h

pub in_cases : {X : Type 0} (y : X) (xs : List X) (x : X) → Contains (y ∷ xs) x → (y ≡ x) ⊎ Contains xs x
in_cases y xs x h = first (Contains-append_cases (y ∷ []) xs x h)
  where
    second : Contains [] x ⊎ (y ≡ x) → (y ≡ x) ⊎ Contains xs x
    second (inl h) = absurd (in_none x h)
    second (inr e) = inl e

    first : Contains (y ∷ []) x ⊎ Contains xs x → (y ≡ x) ⊎ Contains xs x
    first (inl h) = second (Contains-push_cases [] y x h)
    first (inr h) = inr h

-- one that stands between others may stand behind them
pub moved_behind : {X : Type 0} (xs ys : List X) (x y : X) → Contains (xs ++ x ∷ ys) y ↔ Contains ((xs ++ ys) ++ x ∷ []) y
moved_behind xs ys x y = (λ h. there (Contains-append_cases xs (x ∷ ys) y h), λ h. back (Contains-push_cases (xs ++ ys) x y h))
  where
    there_tail : (x ≡ y) ⊎ Contains ys y → Contains ((xs ++ ys) ++ x ∷ []) y
    there_tail (inl e) = Contains-append_right (xs ++ ys) (x ∷ []) y (at_head e)
      where
        at_head : x ≡ y → Contains (x ∷ []) y
        at_head e = (0, omega arith, e)
    there_tail (inr h) = Contains-append_left (xs ++ ys) (x ∷ []) y (Contains-append_right xs ys y h)

    there : Contains xs y ⊎ Contains (x ∷ ys) y → Contains ((xs ++ ys) ++ x ∷ []) y
    there (inl h) = Contains-append_left (xs ++ ys) (x ∷ []) y (Contains-append_left xs ys y h)
    there (inr h) = there_tail (in_cases x ys y h)

    back_rest : Contains xs y ⊎ Contains ys y → Contains (xs ++ x ∷ ys) y
    back_rest (inl h) = Contains-append_left xs (x ∷ ys) y h
    back_rest (inr h) = Contains-append_right xs (x ∷ ys) y (in_tail x ys y h)

    back : Contains (xs ++ ys) y ⊎ (x ≡ y) → Contains (xs ++ x ∷ ys) y
    back (inl h) = back_rest (Contains-append_cases xs ys y h)
    back (inr e) = Contains-append_right xs (x ∷ ys) y (0, omega arith, e)

-- the same members, and one more
pub pushed_alike : {X : Type 0} (xs ys : List X) (x y : X) → Contains xs y ↔ Contains ys y → Contains (xs ++ x ∷ []) y ↔ Contains (ys ++ x ∷ []) y
pushed_alike {X} xs ys x y same = (λ h. there xs ys same.0 (Contains-push_cases xs x y h), λ h. there ys xs same.1 (Contains-push_cases ys x y h))
  where
    there : (old new : List X) → (Contains old y → Contains new y) → Contains old y ⊎ (x ≡ y) → Contains (new ++ x ∷ []) y
    there old new f (inl h) = Contains-append_left new (x ∷ []) y (f h)
    there old new f (inr e) = Contains-append_right new (x ∷ []) y (0, omega arith, e)

-- ---- members of what a list is turned into

pub made_from : {X Y : Type 0} (f : X → Y) (xs : List X) (x : X) → Contains xs x → Contains (map f xs) (f x)
made_from f [] x h = absurd (in_none x h)
made_from f (first ∷ xs) x (zero, below, e) = (0, omega arith, ap f e)
made_from f (first ∷ xs) x (suc k, below, e) = let m = made_from f xs x (k, omega arith, e) in (suc m.0, omega (arith, m.1), m.2)

pub made_at : {X Y : Type 0} (f : X → Y) (xs : List X) (i : ℕ) (x : X) → i < length xs → x ≡ get_or xs i x → Contains (map f xs) (f x)
made_at f xs i x inside is = made_from f xs x (i, inside, sym is)

pub record IsOf {X Y : Type 0} (f : X → Y) (xs : List X) (y : Y) : Type 0 where
  pub source : X
  pub among : Contains xs source
  pub same : f source ≡ y

pub source_of : {X Y : Type 0} (f : X → Y) (xs : List X) (y : Y) → Contains (map f xs) y → IsOf f xs y
source_of f [] y h = absurd (in_none y h)
source_of f (x ∷ xs) y (zero, below, e) = record { source = x; among = (0, omega arith, refl); same = e }
source_of f (x ∷ xs) y (suc k, below, e) =
    let s = source_of f xs y (k, omega arith, e) in record { source = s.source; among = (suc s.among.0, omega (arith, s.among.1), s.among.2); same = s.same }

pub none_made : {X Y : Type 0} (f : X → Y) (xs : List X) (y : Y) → All (λ x. f x ≡ y → ⊥) xs → Contains (map f xs) y → ⊥
none_made f xs y none h = let s = source_of f xs y h in All-contains (λ x. f x ≡ y → ⊥) xs s.source none s.among s.same

pub so_of_made : {X Y : Type 0} (P : Y → Type 0) (f : X → Y) (xs : List X) (x : X) → All P (map f xs) → Contains xs x → P (f x)
so_of_made P f xs x h among = All-contains P (map f xs) (f x) h (made_from f xs x among)

pub made_more : {X Y : Type 0} (f : X → Y) (xs : List X) (i : ℕ) (x : X) → i < length xs → x ≡ get_or xs i x → map f (take (i + 1) xs) ≡ map f (take i xs) ++ f x ∷ []
made_more f xs i x inside is =
    ap (map f) (take_more xs i x inside ∙ ap (λ z. take i xs ++ z ∷ []) (sym is)) ∙ map-append f (take i xs) (x ∷ [])
