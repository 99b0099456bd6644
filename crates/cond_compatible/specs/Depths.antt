-- Structs that are alike to a depth, by which compatible types are found: an aid of proofs, no further definition (ISO/IEC 9899:2011, 6.2.7).
use Rattle.std.specs.Prelude.{ℕ, zero, suc, ◌==◌, Bool, true, false, not, ◌&&◌, List, [], ◌∷◌, Option, Some, None, is_some, slice_get}
use Rattle.std.specs.Str.{bytes_eq}
use Rattle.c_types.specs.Types.{PlainType, pointer_to, array_of, structure}
use Rattle.c_types.specs.Tags.{PlainMember, PlainTag}
use Rattle.core_meaning.specs.Entities.{Signature, Sort, variable, function}
use Rattle.core_meaning.specs.Typing.{same_type}

-- which structs are alike, by their numbers
module _ (alike : ℕ → ℕ → Bool) where
  -- the types are the same but for the structs in them, and these stand in the same places and are alike
  abbrev pub types_agree : PlainType → PlainType → Bool
  types_agree (pointer_to a) (pointer_to b) = types_agree a b
  types_agree (array_of a m) (array_of b n) = m == n && types_agree a b
  types_agree (structure i) (structure j) = alike i j
  types_agree a b = same_type a b

  abbrev pub member_agrees : PlainMember → PlainMember → Bool
  member_agrees a b = bytes_eq a.name b.name && types_agree a.ty b.ty

  abbrev pub members_agree : List PlainMember → List PlainMember → Bool
  members_agree [] [] = true
  members_agree (a ∷ as_) (b ∷ bs) = member_agrees a b && members_agree as_ bs
  members_agree as_ bs = false

  abbrev pub parameters_agree : List PlainType → List PlainType → Bool
  parameters_agree [] [] = true
  parameters_agree (a ∷ as_) (b ∷ bs) = types_agree a b && parameters_agree as_ bs
  parameters_agree as_ bs = false

  abbrev pub signatures_agree : Signature → Signature → Bool
  signatures_agree f g = types_agree f.result g.result && parameters_agree f.parameters g.parameters

  abbrev pub sorts_agree : Sort → Sort → Bool
  sorts_agree (variable a) (variable b) = types_agree a b
  sorts_agree (function f) (function g) = signatures_agree f g
  sorts_agree a b = false

  -- the tags are the same, and so are the members in order, where both structs are complete
  abbrev pub tags_agree : PlainTag → PlainTag → Bool
  tags_agree a b = bytes_eq a.name b.name && not (a.complete && b.complete && not (members_agree a.members b.members))

  abbrev pub structs_agree : Option PlainTag → Option PlainTag → Bool
  structs_agree (Some a) (Some b) = tags_agree a b
  structs_agree a b = false

-- two members or parameters, which are refused where they don't agree
abbrev pub unless_agreed : Bool → Option (Unit {0})
unless_agreed true = None
unless_agreed false = Some tt

-- structs that were alike, and agree where their members are compared by those that were
abbrev pub compared : (ℕ → ℕ → Bool) → List PlainTag → ℕ → ℕ → Bool
compared alike tags i j = alike i j && structs_agree alike (slice_get tags i) (slice_get tags j)

-- Any two structs are alike to the depth 0. To a greater one they are if they agree where members are compared to the depth before.
abbrev pub alike_to : List PlainTag → ℕ → ℕ → ℕ → Bool
alike_to tags zero i j = is_some (slice_get tags i) && is_some (slice_get tags j)
alike_to tags (suc depth) i j = compared (alike_to tags depth) tags i j
