-- Lists of which each two elements are related, and choices that are made alike.
use Rattle.std.proofs.Common.{◌≡◌, Bool, true, false, cond, List, [], ◌∷◌, ◌++◌, map, length, refl}
use Rattle.std.specs.List.{flat_map}
use Rattle.renamed_units.specs.Pairs.{Pairs}

pub pairs-append : {X Y : Type 0} (R : X → Y → Type 0) (as_ cs : List X) (bs ds : List Y) → Pairs R as_ bs → Pairs R cs ds → Pairs R (as_ ++ cs) (bs ++ ds)
pairs-append R [] cs [] ds p q = q
pairs-append R [] cs (b ∷ bs) ds p q = absurd p
pairs-append R (a ∷ as_) cs [] ds p q = absurd p
pairs-append R (a ∷ as_) cs (b ∷ bs) ds p q = (p.0, pairs-append R as_ cs bs ds p.1 q)

pub pairs-map : {X Y U V : Type 0} (R : X → Y → Type 0) (Q : U → V → Type 0) (f : X → U) (g : Y → V) → ((x : X) (y : Y) → R x y → Q (f x) (g y)) → (as_ : List X) (bs : List Y) → Pairs R as_ bs → Pairs Q (map f as_) (map g bs)
pairs-map R Q f g keeps [] [] p = tt
pairs-map R Q f g keeps [] (b ∷ bs) p = absurd p
pairs-map R Q f g keeps (a ∷ as_) [] p = absurd p
pairs-map R Q f g keeps (a ∷ as_) (b ∷ bs) p = (keeps a b p.0, pairs-map R Q f g keeps as_ bs p.1)

pub pairs-flat-map : {X Y U V : Type 0} (R : X → Y → Type 0) (Q : U → V → Type 0) (f : X → List U) (g : Y → List V) → ((x : X) (y : Y) → R x y → Pairs Q (f x) (g y)) → (as_ : List X) (bs : List Y) → Pairs R as_ bs → Pairs Q (flat_map f as_) (flat_map g bs)
pairs-flat-map R Q f g keeps [] [] p = tt
pairs-flat-map R Q f g keeps [] (b ∷ bs) p = absurd p
pairs-flat-map R Q f g keeps (a ∷ as_) [] p = absurd p
pairs-flat-map R Q f g keeps (a ∷ as_) (b ∷ bs) p =
    pairs-append Q (f a) (flat_map f as_) (g b) (flat_map g bs) (keeps a b p.0) (pairs-flat-map R Q f g keeps as_ bs p.1)

pub pairs-weaker : {X Y : Type 0} (R Q : X → Y → Type 0) → ((x : X) (y : Y) → R x y → Q x y) → (as_ : List X) (bs : List Y) → Pairs R as_ bs → Pairs Q as_ bs
pairs-weaker R Q keeps [] [] p = tt
pairs-weaker R Q keeps [] (b ∷ bs) p = absurd p
pairs-weaker R Q keeps (a ∷ as_) [] p = absurd p
pairs-weaker R Q keeps (a ∷ as_) (b ∷ bs) p = (keeps a b p.0, pairs-weaker R Q keeps as_ bs p.1)

pub pairs-length : {X Y : Type 0} (R : X → Y → Type 0) (as_ : List X) (bs : List Y) → Pairs R as_ bs → length bs ≡ length as_
pairs-length R [] [] p = refl
pairs-length R [] (b ∷ bs) p = absurd p
pairs-length R (a ∷ as_) [] p = absurd p
pairs-length R (a ∷ as_) (b ∷ bs) p = let e = pairs-length R as_ bs p.1 in cc

-- choices by equal truths are related if what is chosen is
pub choice-alike : {X Y : Type 0} (R : X → Y → Type 0) (b c : Bool) (x y : X) (u v : Y) → c ≡ b → R x u → R y v → R (cond b x y) (cond c u v)
choice-alike R true true x y u v e p q = p
choice-alike R false false x y u v e p q = q
choice-alike R true false x y u v e p q = let h : ⊥ = cc in absurd h
choice-alike R false true x y u v e p q = let h : ⊥ = cc in absurd h
