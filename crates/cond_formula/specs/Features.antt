-- Sets of features as lists of truth values, the one at place i for feature number i.
use Rattle.std.specs.Prelude.{ℕ, suc, zero, ◌+◌, ◌*◌, ◌/◌, ◌%◌, ◌==◌, Bool, false, ◌&&◌, if◌then◌else◌, nat_lt, List, [], ◌∷◌, slice_index_or}

-- whether the feature is on: a configuration has no feature from number 128 on
unfoldable pub has : List Bool → ℕ → Bool
has on feature = nat_lt feature 128 && slice_index_or on feature false

-- the lowest bits of a number, from bit 0 on
unfoldable pub bits_of : ℕ → ℕ → List Bool
bits_of zero n = []
bits_of (suc count) n = (n % 2 == 1) ∷ bits_of count (n / 2)

-- the number whose bits these are
unfoldable pub number_of : List Bool → ℕ
number_of [] = 0
number_of (bit ∷ rest) = (if bit then 1 else 0) + 2 * number_of rest
