-- The places before lists that have begun only where they have an entry.
use Rattle.std.proofs.Common.{◌≡◌, ℕ, suc, ◌+◌, ◌-◌, ◌<◌, Bool, List, [], ◌∷◌, length, drop, Option, Some, None, IsTrue, IfSome, IsNone, inl, inr, refl, sym, ap, ◌∙◌, arith, length-drop}
use Rattle.std.specs.Bool.{◌==◌, if◌then◌else◌}
use Rattle.std.proofs.lemmas.Bool.Decides.{eqb_tells}
use Rattle.c_tree.specs.declared.kinds.Kind.{Kind}
use Rattle.c_tree.specs.declared.kinds.Kind.TheVariants.{Block, StructDefinition, Call, Braces, LocalDeclaration, Member}
use Rattle.c_tree.specs.Grammar.{items, members, arguments, initialisers, declarators, local, member_of, Slot, needed, optional, row}
use Rattle.c_tree.specs.Places.{Place, inside}
use Rattle.grammar_moves.specs.declared.places.Place.{Place as Spot}
use Rattle.grammar_moves.specs.PlainPlaces.{plain_place, plain_around}
use Rattle.choice_states.specs.Lists.{list_part, before_list, is_around_list, IsInside}

pub place_there : (found : Option Spot) (places : List Place) → plain_around found ≡ places → IfSome found (λ place. places ≡ plain_place place ∷ [])
place_there None places is = tt
place_there (Some place) places is = sym is

pub no_place : (found : Option Spot) (places : List Place) → plain_around found ≡ places → IsNone found → places ≡ []
no_place None places is none = sym is
no_place (Some place) places is none = absurd (cc none)

-- how many parts are left says how many have been read
left_tells : (slots : List Slot) (read part left : ℕ) → 0 < left → length slots ≡ suc part + left → (length (drop read slots) == left) ≡ (read == suc part)
left_tells slots read part left some long =
    let short : length (drop read slots) ≡ length slots - read = length-drop read slots in
    elim (eqb_tells read (suc part)) [
      | inl same ↦ elim (eqb_tells (length (drop read slots)) left) [
        | inl so ↦ so.0 ∙ sym same.0
        | inr not ↦ absurd (not.1 (let e : read ≡ suc part = same.1 in omega arith))
      ]
      | inr apart ↦ elim (eqb_tells (length (drop read slots)) left) [
        | inl so ↦ absurd (apart.1 (let e : length (drop read slots) ≡ left = so.1 in omega arith))
        | inr not ↦ not.0 ∙ sym apart.0
      ]
    ]

-- the place before a part of a row, if it is the last one read
before_row :
    (kind : Kind) (slot : Slot) (read part left : ℕ) → 0 < left → length (row kind) ≡ suc part + left → drop part (row kind) ≡ slot ∷ drop (suc part) (row kind)
    → (if read == suc part then inside kind (drop part (row kind)) ∷ [] else [])
    ≡ (if length (drop read (row kind)) == left then inside kind (slot ∷ drop read (row kind)) ∷ [] else [])
before_row kind slot read part left some long is =
    elim (eqb_tells read (suc part)) [
      | inl same ↦
          ap (λ (b : Bool). if b then inside kind (drop part (row kind)) ∷ [] else []) same.0
          ∙ ap (λ slots. inside kind slots ∷ []) (is ∙ ap (λ n. slot ∷ drop n (row kind)) (sym same.1))
          ∙ ap (λ (b : Bool). if b then inside kind (slot ∷ drop read (row kind)) ∷ [] else []) (sym (left_tells (row kind) read part left some long ∙ same.0))
      | inr apart ↦
          ap (λ (b : Bool). if b then inside kind (drop part (row kind)) ∷ [] else []) apart.0
          ∙ ap (λ (b : Bool). if b then inside kind (slot ∷ drop read (row kind)) ∷ [] else []) (sym (left_tells (row kind) read part left some long ∙ apart.0))
    ]

pub block_row : (read : ℕ) → (if read == 2 then inside Block (drop 1 (row Block)) ∷ [] else []) ≡ before_list Block (drop read (row Block)) (list_part Block)
block_row read = before_row Block (optional items) read 1 1 (omega arith) refl refl

pub struct_row : (read : ℕ) → (if read == 3 then inside StructDefinition (drop 2 (row StructDefinition)) ∷ [] else []) ≡ before_list StructDefinition (drop read (row StructDefinition)) (list_part StructDefinition)
struct_row read = before_row StructDefinition (needed members) read 2 2 (omega arith) refl refl

pub call_row : (read : ℕ) → (if read == 3 then inside Call (drop 2 (row Call)) ∷ [] else []) ≡ before_list Call (drop read (row Call)) (list_part Call)
call_row read = before_row Call (optional arguments) read 2 1 (omega arith) refl refl

pub braces_row : (read : ℕ) → (if read == 2 then inside Braces (drop 1 (row Braces)) ∷ [] else []) ≡ before_list Braces (drop read (row Braces)) (list_part Braces)
braces_row read = before_row Braces (needed initialisers) read 1 1 (omega arith) refl refl

pub local_row : (read : ℕ) → (if read == 2 then inside LocalDeclaration (drop 1 (row LocalDeclaration)) ∷ [] else []) ≡ before_list LocalDeclaration (drop read (row LocalDeclaration)) (list_part LocalDeclaration)
local_row read = before_row LocalDeclaration (needed (declarators local)) read 1 1 (omega arith) refl refl

pub member_row : (read : ℕ) → (if read == 2 then inside Member (drop 1 (row Member)) ∷ [] else []) ≡ before_list Member (drop read (row Member)) (list_part Member)
member_row read = before_row Member (needed (declarators member_of)) read 1 1 (omega arith) refl refl

-- the place before each list
pub ruleset list_rows = (block_row, struct_row, call_row, braces_row, local_row, member_row)

-- such a node has a fixed list of parts
pub is_inside : (place : Place) → IsTrue (is_around_list place) → IsInside place
is_inside (inside kind slots) is = tt
is_inside _ is = absurd (cc is)
