-- Texts in a row.
use Rattle.std.proofs.Common.{◌≡◌, ℕ, List, [], ◌++◌, refl, ap}
use Rattle.std.specs.Prelude.{Option, Some, None}
use Rattle.std.proofs.lemmas.List.{append_assoc, append-nil}
use Rattle.core_meaning.specs.Expressions.{joined_bytes}

pub joined_twice : (first second : List ℕ) (rest : Option (List ℕ)) → joined_bytes (Some (first ++ second)) rest ≡ joined_bytes (Some first) (joined_bytes (Some second) rest)
joined_twice first second (Some rest) = ap Some (append_assoc first second rest)
joined_twice first second None = refl

pub joined_with_none : (first : List ℕ) → joined_bytes (Some first) (Some []) ≡ Some first
joined_with_none first = ap Some (append-nil first)
