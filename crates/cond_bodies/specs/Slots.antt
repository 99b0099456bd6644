-- Bodies as lists of places, and what they give with arguments.
use Rattle.std.specs.Prelude.{ℕ, zero, suc, Bool, List, [], ◌∷◌, map, Option, Some, None}
use Rattle.c_text.specs.Token.{PlainToken, plain_token}
use Rattle.c_text.specs.Macros.{Item, fresh}
use Rattle.conditional.specs.declared.entries.Guarded.{Guarded}
use Rattle.conditional.specs.Entries.{entries_of, first, seen}
use Rattle.cond_bodies.specs.declared.part.Part.{Part}
use Rattle.cond_bodies.specs.declared.part.Part.TheVariants as part
use Rattle.cond_bodies.specs.declared.slot.Slot.{Slot}
use Rattle.cond_bodies.specs.CondItems.{or_token}
use Rattle.cond_bodies.specs.CondMeanings.{PlainFunction}
use Rattle.cond_bodies.specs.Parts.{part_from}

pub record PlainSlot : Type 0 where
  pub part : Part
  pub token : PlainToken

-- the place of a configuration
unfoldable pub slot_at : (ℕ → Bool) → Slot → PlainSlot
slot_at on slot = record { part = slot.part; token = or_token (plain_token slot.token.now) (first (seen on (entries_of (λ t. plain_token t.now) slot.others.items))) }

abbrev pub slots_at : (ℕ → Bool) → List (Guarded Slot) → List PlainSlot
slots_at on slots = seen on (entries_of (slot_at on) slots)

-- the places of a body
abbrev pub slot_of : List (List ℕ) → PlainToken → PlainSlot
slot_of params token = record { part = part_from 0 params token; token = token }

abbrev pub slots_of : PlainFunction → List PlainSlot
slots_of function = map (slot_of function.params) function.body

-- the argument with a number, or the token where there is none
abbrev pub argument_or : PlainToken → ℕ → List (List Item) → List Item
argument_or token number [] = fresh token ∷ []
argument_or token zero (argument ∷ arguments) = argument
argument_or token (suc number) (argument ∷ arguments) = argument_or token number arguments

abbrev pub part_items : List (List Item) → PlainToken → Part → List Item
part_items arguments token part.Token = fresh token ∷ []
part_items arguments token (part.Parameter number) = argument_or token number arguments

abbrev pub slot_items : List (List Item) → PlainSlot → List Item
slot_items arguments slot = part_items arguments slot.token slot.part

-- the argument of a place, or what stands there without one
abbrev pub or_items : List Item → Option (List Item) → List Item
or_items own None = own
or_items own (Some argument) = argument
