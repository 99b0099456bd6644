-- Tests that hold together.
use Rattle.std.proofs.Common.{◌≡◌, Bool, true, false, not, refl, sym}

-- whether two tests have one answer
abbrev pub same : Bool → Bool → Bool
same true b = b
same false b = not b

pub equal_from_same : (a b : Bool) → same a b ≡ true → a ≡ b
equal_from_same true true is = refl
equal_from_same true false is = sym is
equal_from_same false true is = is
equal_from_same false false is = refl

pub same_from_equal : (a b : Bool) → a ≡ b → same a b ≡ true
same_from_equal true true is = refl
same_from_equal true false is = sym is
same_from_equal false true is = is
same_from_equal false false is = refl
