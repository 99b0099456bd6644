-- Facts on digits.
use Rattle.std.proofs.Common.{ℕ, ◌+◌, ◌-◌, ◌*◌, ◌≤◌, List, [], ◌∷◌, arith}
use Rattle.quick_form.specs.Words.{value_from}

-- further digits make a number no smaller
pub value_from-ge : (n : ℕ) (ds : List ℕ) → n ≤ value_from n ds
value_from-ge n [] = omega arith
value_from-ge n (d ∷ ds) =
    let h = value_from-ge (10 * n + (d - 48)) ds in
    omega arith
