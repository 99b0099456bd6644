-- Compatible types of two units (ISO/IEC 9899:2011, 6.2.7).
use Rattle.std.specs.Prelude.{◌≡◌, ℕ, List, Option, Some, IsTrue, slice_get}
use Rattle.std.specs.List.{All, AllZip, Contains}
use Rattle.c_types.specs.declared.pairs.Pair.{Pair}
use Rattle.c_types.specs.Types.{PlainType, pointer_to, array_of, structure}
use Rattle.c_types.specs.Tags.{PlainMember, PlainTag}

-- a struct of each table, by their numbers
abbrev pub pair : ℕ → ℕ → Pair
pair first second = record { first = first; second = second }

-- the types are the same where the structs of each pair are taken as compatible
abbrev pub Agree : List Pair → PlainType → PlainType → Type 0
Agree pairs (pointer_to a) (pointer_to b) = Agree pairs a b
Agree pairs (array_of a m) (array_of b n) = (m ≡ n) × Agree pairs a b
Agree pairs (structure i) (structure j) = Contains pairs (pair i j)
Agree pairs a b = a ≡ b

abbrev pub MemberAgrees : List Pair → PlainMember → PlainMember → Type 0
MemberAgrees pairs a b = (a.name ≡ b.name) × Agree pairs a.ty b.ty

-- the tags are the same, and so are the members in order, where both structs are complete
abbrev pub TagAgrees : List Pair → PlainTag → PlainTag → Type 0
TagAgrees pairs a b =
    (a.name ≡ b.name) × (IsTrue a.complete → IsTrue b.complete → AllZip (MemberAgrees pairs) a.members b.members)

-- a number that names no struct agrees with none
abbrev pub FoundAgree : List Pair → Option PlainTag → Option PlainTag → Type 0
FoundAgree pairs (Some a) (Some b) = TagAgrees pairs a b
FoundAgree pairs a b = ⊥

abbrev pub PairAgrees : List PlainTag → List PlainTag → List Pair → Pair → Type 0
PairAgrees first second pairs p = FoundAgree pairs (slice_get first p.first) (slice_get second p.second)

-- With the structs of some pairs taken as compatible, the types agree, and so do the structs of each of these pairs.
pub record Compatible (first second : List PlainTag) (a b : PlainType) : Type 0 where
  pub pairs : List Pair
  pub agree : Agree pairs a b
  pub closed : All (PairAgrees first second pairs) pairs
