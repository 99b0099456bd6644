-- Lists of types that are compared one by one.
use Rattle.std.proofs.Common.{◌≡◌, ℕ, ◌+◌, ◌<◌, ◌≤◌, Bool, true, false, ◌&&◌, List, [], ◌∷◌, length, map, get_or, drop, refl, ap, arith, ◌∙◌}
use Rattle.std.proofs.Math.ListN.{drop_of_length-le}
use Rattle.c_types.specs.Types.{plain_type}
use Rattle.c_types.specs.declared.types.CType.{CType}
use Rattle.core_meaning.specs.Typing.{same_type}
use Rattle.core_meaning.specs.UnitNames.{same_types}
use Rattle.plain_structs.specs.Leading.{front}

pub other_length : (a b : List CType) → (length a ≡ length b → ⊥) → same_types (map plain_type a) (map plain_type b) ≡ false
other_length [] [] differ = absurd (differ refl)
other_length [] (y ∷ b) differ = refl
other_length (x ∷ a) [] differ = refl
other_length (x ∷ a) (y ∷ b) differ = rw (other_length a b (λ same. differ (omega (arith, same)))) (none (same_type (plain_type x) (plain_type y)))
  where
    none : (b : Bool) → (b && false) ≡ false
    none true = refl
    none false = refl

pub next_types : (a b : List CType) (x y : CType) (n : ℕ) → n < length a → n < length b → x ≡ get_or a n x → y ≡ get_or b n y → same_types (map plain_type (drop n a)) (map plain_type (drop n b)) ≡ (same_type (plain_type x) (plain_type y) && same_types (map plain_type (drop (n + 1) a)) (map plain_type (drop (n + 1) b)))
next_types a b x y n in_a in_b at_a at_b =
    ap (λ l. same_types (map plain_type l) (map plain_type (drop n b))) (front a x n in_a at_a) ∙ ap (λ l. same_types (map plain_type (x ∷ drop (n + 1) a)) (map plain_type l)) (front b y n in_b at_b)

pub no_types_left : (a b : List CType) (n : ℕ) → length a ≤ n → length b ≤ n → same_types (map plain_type (drop n a)) (map plain_type (drop n b)) ≡ true
no_types_left a b n over_a over_b = rw (drop_of_length-le a {i = n} over_a, drop_of_length-le b {i = n} over_b) refl
