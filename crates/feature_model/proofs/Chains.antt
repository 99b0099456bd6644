-- Chains of `<->`, grouped in any way.
use Rattle.std.proofs.Common.{◌≡◌, Bool, true, false, not, List, [], ◌∷◌, ◌++◌, Some, map, refl, sym, ap, ◌∙◌}
use Rattle.std.specs.Prelude.{if◌then◌else◌}
use Rattle.std.proofs.lemmas.List.{map-append}
use Rattle.feature_model.specs.Reading.{joined_sides}
use Rattle.feature_model.specs.ReaderView.{chained, chain_view}

abbrev pub same : Bool → Bool → Bool
same a b = if a then b else not b

same_assoc : (a b c : Bool) → same (same a b) c ≡ same a (same b c)
same_assoc true b c = refl
same_assoc false true c = refl
same_assoc false false true = refl
same_assoc false false false = refl

same_comm : (a b : Bool) → same a b ≡ same b a
same_comm true true = refl
same_comm true false = refl
same_comm false true = refl
same_comm false false = refl

pub same_true : (a : Bool) → same a true ≡ a
same_true true = refl
same_true false = refl

chained-push : (xs : List Bool) (y : Bool) → chained (xs ++ y ∷ []) ≡ same (chained xs) y
chained-push [] y = same_true y
chained-push (x ∷ xs) y =
    ap (same x) (chained-push xs y) ∙ sym (same_assoc x (chained xs) y)

-- the two first operands joined, and put last
pub chained-turned : (a b : Bool) (rest : List Bool) → chained (rest ++ same a b ∷ []) ≡ chained (a ∷ b ∷ rest)
chained-turned a b rest =
    chained-push rest (same a b) ∙ same_comm (chained rest) (same a b) ∙ same_assoc a b (chained rest)

pub chained-step :
    {X : Type 0} (v : X → Bool) (xs ys zs ws : List X) (a b p : X) → xs ≡ a ∷ ys → ys ≡ b ∷ zs → ws ≡ zs ++ p ∷ []
    → v p ≡ same (v a) (v b) → chained (map v ws) ≡ chained (map v xs)
chained-step v xs ys zs ws a b p first second last joins =
    ap (λ l. chained (map v l)) last
    ∙ ap chained (map-append v zs (p ∷ []))
    ∙ ap (λ t. chained (map v zs ++ t ∷ [])) joins
    ∙ chained-turned (v a) (v b) (map v zs)
    ∙ ap (λ l. chained (v a ∷ map v l)) (sym second)
    ∙ ap (λ l. chained (map v l)) (sym first)

-- one operand more
pub chain_view-push : (xs : List Bool) (y : Bool) → chain_view (xs ++ y ∷ []) ≡ Some (joined_sides same (chain_view xs) y)
chain_view-push [] y = ap (λ t. Some t) (same_true y)
chain_view-push (x ∷ xs) y = ap (λ t. Some t) (chained-push (x ∷ xs) y)

pub chained-viewed : (xs : List Bool) (t : Bool) → chain_view xs ≡ Some t → chained xs ≡ t
chained-viewed [] t e = absurd cc
chained-viewed (x ∷ xs) t e = cc
