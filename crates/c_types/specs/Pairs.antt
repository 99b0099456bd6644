-- A model of the code, not part of the meaning:
-- How compatible types are found: what two types ask for, and which pairs of structs a comparison notes.
use Rattle.std.specs.Prelude.{◌≡◌, ℕ, Bool, true, false, ◌&&◌, ◌==◌, List, ◌++◌, IsTrue, if◌then◌else◌, ⊤, ◌≤◌, length, take}
use Rattle.std.specs.List.{All, Contains}
use Rattle.c_types.specs.declared.pairs.Pair.{Pair}
use Rattle.c_types.specs.declared.pairs.Needs.{Needs}
use Rattle.c_types.specs.declared.pairs.Needs.TheVariants.{Nothing, Structs, Never}
use Rattle.c_types.specs.Types.{PlainType, pointer_to, array_of, structure}
use Rattle.c_types.specs.Integers.{width, is_signed}
use Rattle.c_types.specs.Tags.{PlainTag}
use Rattle.c_types.specs.Compatible.{pair, PairAgrees}

abbrev pub is_basic : PlainType → Bool
is_basic (pointer_to t) = false
is_basic (array_of t count) = false
is_basic (structure number) = false
is_basic other = true

abbrev pub same_sign : Bool → Bool → Bool
same_sign true b = b
same_sign false true = false
same_sign false false = true

-- what two types ask for to agree
abbrev pub needed : PlainType → PlainType → Needs
needed (pointer_to a) (pointer_to b) = needed a b
needed (array_of a m) (array_of b n) = if m == n then needed a b else Never
needed (structure i) (structure j) = Structs (pair i j)
needed a b =
    if is_basic a && is_basic b && width a == width b && same_sign (is_signed a) (is_signed b) then Nothing else Never

abbrev pub Met : List Pair → Needs → Type 0
Met pairs Nothing = ⊤
Met pairs (Structs p) = Contains pairs p
Met pairs Never = ⊥

-- the pairs are now these: the old ones, and the pair
pub record Adds (p : Pair) (old new : List Pair) : Type 0 where
  pub more : List Pair
  pub kept : new ≡ old ++ more
  pub has : Contains new p
  pub only : (pairs : List Pair) → All (Contains pairs) old → Contains pairs p → All (Contains pairs) new

-- Whether what is asked holds once the pairs that it needs are noted: it does, or holds with no pairs that include the old ones.
pub record Notes (Asked : List Pair → Type 0) (old new : List Pair) (agrees : Bool) : Type 0 where
  pub more : List Pair
  pub kept : new ≡ old ++ more
  pub enough : IsTrue agrees → Asked new
  pub least : (pairs : List Pair) → All (Contains pairs) old → Asked pairs → IsTrue agrees × All (Contains pairs) new

-- some pairs include the found ones, and the structs of each of them agree
pub record Closure (first second : List PlainTag) (found : List Pair) : Type 0 where
  pub pairs : List Pair
  pub included : All (Contains pairs) found
  pub closed : All (PairAgrees first second pairs) pairs

-- So many of the pairs are compared. Each of those agrees, and all pairs are in each closure of the first ones.
pub record Compared (first second : List PlainTag) (start : List Pair) (done : ℕ) (found : List Pair) : Type 0 where
  pub within : done ≤ length found
  pub included : All (Contains found) start
  pub agree : All (PairAgrees first second found) (take done found)
  pub least : (closure : Closure first second start) → All (Contains closure.pairs) found
