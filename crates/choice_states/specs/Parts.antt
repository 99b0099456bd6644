-- The parts of a node that has begun.
use Rattle.std.specs.Prelude.{◌≡◌, ℕ, zero, suc, ◌-◌, Bool, true, false, not, ◌&&◌, List, [], ◌∷◌, ◌++◌, length, Option, Some, None, IsTrue}
use Rattle.c_tree.specs.declared.kinds.Kind.{Kind}
use Rattle.c_tree.specs.declared.kinds.Kind.TheVariants.{If, Else, While, Do, For}
use Rattle.c_tree.specs.Grammar.{row}
use Rattle.c_tree.specs.Places.{Place, inside, operator, in_list, entered, separated_from}
use Rattle.choice_states.specs.Seen.{Seen, Parts}

abbrev pub is_empty : {A : Type 0} → List A → Bool
is_empty [] = true
is_empty (first ∷ rest) = false

abbrev pub is_there : {A : Type 0} → Option A → Bool
is_there None = false
is_there (Some x) = true

abbrev pub first_of : {A : Type 0} → List A → Option A
first_of [] = None
first_of (first ∷ rest) = Some first

-- the parts that are there, in their order
abbrev pub values : Parts → List Seen
values [] = []
values (None ∷ rest) = values rest
values (Some first ∷ rest) = first ∷ values rest

-- the first so many parts are there, and none behind them
abbrev pub aligned : ℕ → Parts → Bool
aligned zero parts = is_empty parts
aligned (suc n) [] = false
aligned (suc n) (first ∷ rest) = is_there first && aligned n rest

-- Kinds in whose nodes each part has its number in a forest, since one of them is a statement that must be there.
abbrev pub is_numbered : Kind → Bool
is_numbered If = true
is_numbered Else = true
is_numbered While = true
is_numbered Do = true
is_numbered For = true
is_numbered kind = false

abbrev pub if_numbered : Bool → ℕ → Option ℕ
if_numbered true n = Some n
if_numbered false n = None

-- how many parts stand before a place, where they have numbers
abbrev pub part_count : Place → Option ℕ
part_count (inside kind slots) = if_numbered (is_numbered kind) (length (row kind) - length slots)
part_count place = None

abbrev pub is_aligned : Option ℕ → Parts → Bool
is_aligned None parts = true
is_aligned (Some n) parts = aligned n parts

-- an operand is there behind it
abbrev pub has_operand : Place → Parts → Bool
has_operand (operator wanted own) parts = not (is_empty (values parts))
has_operand place parts = true

-- in a list of a kind whose parts have numbers: no grammar has one
abbrev pub is_numbered_list : Place → Bool
is_numbered_list (in_list kind category) = is_numbered kind
is_numbered_list (entered kind category) = is_numbered kind
is_numbered_list (separated_from kind category) = is_numbered kind
is_numbered_list place = false

-- the parts that a node has where one stands at a place behind them
abbrev pub parts_fit : Place → Parts → Bool
parts_fit place parts = is_aligned (part_count place) parts && (has_operand place parts && not (is_numbered_list place))

-- those that it has where one stands in a part before the place
abbrev pub all_but_one : Option ℕ → Parts → Bool
all_but_one None parts = true
all_but_one (Some zero) parts = false
all_but_one (Some (suc n)) parts = aligned n parts

abbrev pub parts_fit_within : Place → Parts → Bool
parts_fit_within place parts = all_but_one (part_count place) parts && not (is_numbered_list place)

-- those of a whole node of a kind, or of one that is its one part
abbrev pub parts_are_whole : Option Kind → Parts → Bool
parts_are_whole None parts = not (is_empty (values parts))
parts_are_whole (Some kind) parts = is_aligned (if_numbered (is_numbered kind) (length (row kind))) parts

abbrev pub HasNoNumber : Option ℕ → Type 0
HasNoNumber None = Unit {0}
HasNoNumber (Some zero) = Unit {0}
HasNoNumber (Some (suc n)) = ⊥

-- one stands behind one part more at the place
pub record Pushed (behind : Place) (old new : Parts) (part : Seen) : Type 0 where
  pub values_are : values new ≡ values old ++ part ∷ []
  pub fit : IsTrue (parts_fit behind new)
