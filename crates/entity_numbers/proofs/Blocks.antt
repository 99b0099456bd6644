-- The law on blocks, from what is known of slots.
use Rattle.std.proofs.Common.{◌≡◌, ℕ, suc, Bool, false, List, [], ◌∷◌, refl, sym, subst, ap, length, arith}
use Rattle.std.specs.Prelude.{Some, ◌==◌, replicate, if◌then◌else◌}
use Rattle.std.proofs.lemmas.Bool.{eq-eqb, ne_eqb}
use Rattle.std.proofs.lemmas.List.{length-replicate}
use Rattle.c_types.specs.Types.{PlainType, pointer_to, array_of, structure}
use Rattle.core_meaning.specs.Entities.{Table, Sort, variable, function, Scope}
use Rattle.bindings.proofs.Types.{Tagged as TagOf, Made, AllMade, MadeSort}
use Rattle.core_meaning.specs.Checking.{Entity, local_entity, local_of_function, file_entity, struct_entity, member_entity, own_entity, Binding}
use Rattle.entity_numbers.specs.Slots.{IsSlotInTurn, with_slot, AreSlotsInTurn}
use Rattle.entity_numbers.specs.Laws.{BlocksTakeSlotsInTurn}
use Rattle.entity_numbers.proofs.Uses.{Sense}
use Rattle.entity_numbers.proofs.Slots.{Base, Knows, Slots, no_more, known, next, Taken, items_take, size_of_items}

-- nothing is said but of slots; each struct has a tag
abbrev pub every_tag : Table ℕ
every_tag name = Some (length name)

abbrev pub Anything : Sense
Anything = record { knows = λ e. Unit {0}; tags = every_tag }

a_tag : (n : ℕ) → TagOf every_tag n
a_tag n = record { tag = replicate n 0; is = ap Some (length-replicate n 0) }

pub all_made : (ty : PlainType) → Made every_tag ty
all_made (pointer_to ty) = all_made ty
all_made (array_of ty count) = all_made ty
all_made (structure n) = a_tag n
all_made _ = tt

all_types_made : (types : List PlainType) → AllMade every_tag types
all_types_made [] = tt
all_types_made (ty ∷ types) = (all_made ty, all_types_made types)

sort_made : (sort : Sort) → MadeSort every_tag sort
sort_made (variable ty) = all_made ty
sort_made (function signature) = (all_made signature.result, all_types_made signature.parameters)

pub any_base : (s : Scope) → Base Anything s
any_base s = record { files = λ name n e. (tt, sort_made n.sort); members = λ number n found m tag e f. (tt, all_made m.ty); tags = λ name n e. (tt, a_tag n) }

known_in_turn : (n : ℕ) (e : Entity) → Knows Anything n e → IsSlotInTurn n e × (n ≡ with_slot n e)
known_in_turn n (local_entity slot) h =
    let other : (slot == n) ≡ false = ne_eqb slot n (λ e. let same_ : slot ≡ n = e in omega (arith, h, same_)) in
    (omega (arith, h), sym (ap (λ (b : Bool). if b then suc n else n) other))
known_in_turn n (local_of_function f slot) h = (tt, refl)
known_in_turn n (file_entity name) h = (tt, refl)
known_in_turn n (struct_entity m) h = (tt, refl)
known_in_turn n (member_entity s m) h = (tt, refl)
known_in_turn n own_entity h = (tt, refl)

next_in_turn : (n : ℕ) (e : Entity) → e ≡ local_entity n → IsSlotInTurn n e × (suc n ≡ with_slot n e)
next_in_turn n e is =
    subst (λ x. IsSlotInTurn n x × (suc n ≡ with_slot n x)) (sym is) (omega arith, sym (ap (λ (b : Bool). if b then suc n else n) (eq-eqb n n refl)))

pub in_turn : {n m : ℕ} {js : List Binding} → Slots Anything n js m → AreSlotsInTurn n js m
in_turn no_more = refl
in_turn (known {n = n} {m = m} {b = b} {rest = rest} h f) = let p = known_in_turn n b.entity h in (p.0, subst (λ l. AreSlotsInTurn l rest m) p.1 (in_turn f))
in_turn (next {n = n} {m = m} {b = b} {rest = rest} e d f) = let p = next_in_turn n b.entity e in (p.0, subst (λ l. AreSlotsInTurn l rest m) p.1 (in_turn f))

pub blocks_take_slots_in_turn : BlocksTakeSlotsInTurn
blocks_take_slots_in_turn around slots items judged bindings visible e =
    let all = items_take Anything around slots items (record { base = any_base around.scope; locals = λ name l f. (visible name l f, all_made l.ty) }) in
    in_turn (subst (λ c. Taken Anything (size_of_items Anything) (λ x. Unit {0}) (length slots) c) e all.taken).0
