-- Lists that have begun only where they have an entry, and parts that are left out.
use Rattle.std.specs.Prelude.{ℕ, ◌==◌, Bool, true, false, not, List, [], ◌∷◌, drop, length, Option, Some, None, if◌then◌else◌}
use Rattle.c_tree.specs.declared.kinds.Kind.{Kind}
use Rattle.c_tree.specs.declared.kinds.Kind.TheVariants as k
use Rattle.c_tree.specs.declared.kinds.Kind.TheVariants.{Block, StructDefinition, Call, Braces, LocalDeclaration, Member, Items, Members, Arguments, Initialisers}
use Rattle.c_tree.specs.Grammar.{expression, initialiser, item, items, member, members, arguments, initialisers, declarators, local, member_of, Slot, needed, optional}
use Rattle.c_tree.specs.Places.{Place, inside, in_brackets, in_list, separated_from, declarator_next}
use Rattle.c_tree.specs.Machine.{Frame, frame}
use Rattle.choice_states.specs.Parts.{is_there}

-- the part of a node of a kind that is such a list
abbrev pub list_part : Kind → Option Slot
list_part Block = Some (optional items)
list_part StructDefinition = Some (needed members)
list_part Call = Some (optional arguments)
list_part Braces = Some (needed initialisers)
list_part LocalDeclaration = Some (needed (declarators local))
list_part Member = Some (needed (declarators member_of))
list_part kind = None

-- how many parts stand behind it
abbrev pub behind_list : Kind → ℕ
behind_list StructDefinition = 2
behind_list kind = 1

-- a place in such a list, before an entry, in a node of a kind
abbrev pub is_before_entry : Place → Kind → Bool
is_before_entry (in_list Items item) Block = true
is_before_entry (in_list Members member) StructDefinition = true
is_before_entry (separated_from Arguments (expression n)) Call = n == 1
is_before_entry (separated_from Initialisers initialiser) Braces = true
is_before_entry (declarator_next local) LocalDeclaration = true
is_before_entry (declarator_next member_of) Member = true
is_before_entry before kind = false

-- the place before the list in a node, by the parts that are to come behind it
abbrev pub before_list : Kind → List Slot → Option Slot → List Place
before_list kind slots None = []
before_list kind slots (Some list) = if length slots == behind_list kind then inside kind (list ∷ slots) ∷ [] else []

-- The place around a list, where it hasn't begun: by its place before an entry, and the place behind it.
abbrev pub around_of : Place → Place → List Place
around_of before (inside kind slots) = if is_before_entry before kind then before_list kind slots (list_part kind) else []
around_of before behind = []

-- in a node that has such a list
abbrev pub is_around_list : Place → Bool
is_around_list (inside kind slots) = is_there (list_part kind)
is_around_list place = false

-- the frames where the list hasn't begun
abbrev pub without_list : {A : Type 0} → List Place → Place → Frame A → List (Frame A) → List (Frame A)
without_list [] place outer frames = frame place [] ∷ outer ∷ frames
without_list (around ∷ others) place outer frames = frame around outer.parts ∷ frames

-- the frames of a node at a place with these parts, and those around it
abbrev pub frames_at : {A : Type 0} → Place → List A → List (Frame A) → List (Frame A)
frames_at place [] [] = frame place [] ∷ []
frames_at place [] (outer ∷ frames) = without_list (around_of place outer.place) place outer frames
frames_at place (part ∷ parts) frames = frame place (part ∷ parts) ∷ frames

-- the place behind so many parts that are left out
abbrev pub left_out : ℕ → Place → Place
left_out count (inside kind slots) = inside kind (drop count slots)
left_out count (in_brackets has_name slots) = in_brackets has_name (drop count slots)
left_out count place = place

-- in a node with a fixed list of parts
abbrev pub IsInside : Place → Type 0
IsInside (inside kind slots) = Unit {0}
IsInside other = ⊥

-- ---- the list of a unit's items, which is in no other node

abbrev pub is_unit_kind : Kind → Bool
is_unit_kind k.Unit = true
is_unit_kind kind = false

abbrev pub is_unit_list : Place → Bool
is_unit_list (in_list kind category) = is_unit_kind kind
is_unit_list place = false

-- whether one may be at a place in a node behind which is this place in the node around it; or in none around it
abbrev pub place_fits_in : Place → Option Place → Bool
place_fits_in place None = is_unit_list place
place_fits_in place (Some behind) = true

-- whether a whole node of a kind, or the one part, may be there
abbrev pub whole_fits_in : Option Kind → Option Place → Bool
whole_fits_in None None = false
whole_fits_in (Some kind) None = is_unit_kind kind
whole_fits_in kind (Some behind) = true

-- whether a list may be there that has begun only where it has an entry
abbrev pub unbegun_fits_in : Option Place → Bool
unbegun_fits_in None = false
unbegun_fits_in (Some behind) = not (is_unit_list behind)
