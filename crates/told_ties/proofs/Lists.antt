-- Elements of lists that are joined.
use Rattle.std.proofs.Common.{◌≡◌, zero, suc, List, [], ◌∷◌, Option, Some, None, inl, inr, Contains, refl, sym, arith}
use Rattle.std.specs.Prelude.{◌⊎◌, flat_map, option_map}
use Rattle.std.proofs.lemmas.List.Elements.{Contains-append_left, Contains-append_right, Contains-append_cases}

pub none_among : {X : Type 0} (x : X) → Contains [] x → ⊥
none_among x (k, below, e) = absurd (omega arith)

pub alone_among : {X : Type 0} (y x : X) → Contains (y ∷ []) x → y ≡ x
alone_among y x (zero, below, e) = e
alone_among y x (suc k, below, e) = absurd (omega arith)

pub first_among : {X : Type 0} (y x : X) (xs : List X) → y ≡ x → Contains (y ∷ xs) x
first_among y x xs e = (zero, omega arith, e)

pub later_among : {X : Type 0} (y x : X) (xs : List X) → Contains xs x → Contains (y ∷ xs) x
later_among y x xs h = (suc h.0, omega (arith, h.1), h.2)

-- what is made of which element
pub record IsMadeOf {X Y : Type 0} (f : X → List Y) (xs : List X) (y : Y) : Type 0 where
  pub source : X
  pub among : Contains xs source
  pub made : Contains (f source) y

pub made_of : {X Y : Type 0} (f : X → List Y) (xs : List X) (y : Y) → Contains (flat_map f xs) y → IsMadeOf f xs y
made_of f [] y h = absurd (none_among y h)
made_of f (x ∷ xs) y h = by (Contains-append_cases (f x) (flat_map f xs) y h) (λ k. made_of f xs y k)
  where
    by : Contains (f x) y ⊎ Contains (flat_map f xs) y → (Contains (flat_map f xs) y → IsMadeOf f xs y) → IsMadeOf f (x ∷ xs) y
    by (inl h) behind = record { source = x; among = first_among x x xs refl; made = h }
    by (inr h) behind = let b = behind h in record { source = b.source; among = later_among x b.source xs b.among; made = b.made }

pub makes : {X Y : Type 0} (f : X → List Y) (xs : List X) (x : X) (y : Y) → Contains xs x → Contains (f x) y → Contains (flat_map f xs) y
makes f [] x y (k, below, e) h = absurd (omega arith)
makes {X} {Y} f (first ∷ xs) x y (zero, below, e) h = Contains-append_left (f first) (flat_map f xs) y (there (sym e) h)
  where
    there : {a b : X} → a ≡ b → Contains (f a) y → Contains (f b) y
    there {a} {b} e h = rw (sym e) h
makes f (first ∷ xs) x y (suc k, below, e) h = Contains-append_right (f first) (flat_map f xs) y (makes f xs x y (k, omega arith, e) h)

-- what some value is made of
pub some_of : {X Y : Type 0} (f : X → Y) (x : Option X) (y : Y) → option_map f x ≡ Some y → (z : X) × (x ≡ Some z) × (f z ≡ y)
some_of f None y e = absurd cc
some_of f (Some x) y e = (x, refl, cc)
