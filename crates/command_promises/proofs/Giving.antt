-- Bytes that are given piece by piece.
use Rattle.std.proofs.Common.{◌≡◌, ℕ, ◌++◌, ◌+◌, ◌-◌, ◌<◌, ◌≤◌, min, List, length, take, drop, sym, ◌∙◌, ap, arith, length-drop, append_assoc}
use Rattle.std.proofs.Math.Seq.{take-add}
use Rattle.command_promises.specs.Endings.{TookFront}
use Rattle.std.proofs.lemmas.List.{take_all, take-append-drop}

-- what is left of the bytes
rest_is : (xs : List ℕ) (i : ℕ) → take (length xs - i) (drop i xs) ≡ drop i xs
rest_is xs i = take_all (length xs - i) (drop i xs) (omega (arith, length-drop i xs))

-- one more piece
pub given_more : (bytes before now new : List ℕ) (given n : ℕ) → now ≡ before ++ take given bytes → new ≡ now ++ take n (take (length bytes - given) (drop given bytes)) → new ≡ before ++ take (given + n) bytes
given_more bytes before now new given n p q =
    q ∙ (ap (λ rest. now ++ take n rest) (rest_is bytes given)
    ∙ (ap (λ t. t ++ take n (drop given bytes)) p ∙ (append_assoc before (take given bytes) (take n (drop given bytes)) ∙ ap (λ t. before ++ t) (sym (take-add given n bytes)))))

-- a front was taken
pub took_front : (bytes before now : List ℕ) (given : ℕ) → now ≡ before ++ take given bytes → TookFront before bytes now
took_front bytes before now given p = record {
  front = take given bytes;
  is_prefix = record { rest = drop given bytes; whole_is = sym (take-append-drop given bytes) };
  after_is = p;
}

pub piece_within : (bytes : List ℕ) (given n : ℕ) → given ≤ length bytes → n ≤ length (take (length bytes - given) (drop given bytes)) → given + n ≤ length bytes
piece_within bytes given n h k = let e = ap length (rest_is bytes given) in omega (arith, length-drop given bytes, k, e)

pub piece_some : (bytes : List ℕ) (given : ℕ) → given < length bytes → 0 < length (take (length bytes - given) (drop given bytes))
piece_some bytes given h = let e = ap length (rest_is bytes given) in omega (arith, h, length-drop given bytes, e)

-- where none of a piece fits, the room was too small
pub none_fits : (n piece room given all before : ℕ) → n ≡ 0 → n ≡ min piece room → 0 < piece → room + given ≡ before → given < all → before < all
none_fits n piece room given all before is fits some sum less = omega (arith, is, fits, some, sum, less)
