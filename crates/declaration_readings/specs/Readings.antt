-- How declarations go on declarator by declarator, so that a reader of all configurations at once, in which a declarator may be there or not, goes
-- on in the same way (ISO/IEC 9899:2011, 6.7).
use Rattle.std.specs.Prelude.{◌≡◌, Bool, true, false, ℕ, List, []}
use Rattle.c_types.specs.Types.{PlainType}
use Rattle.c_tree.specs.Trees.{PlainTrees}
use Rattle.core_meaning.specs.Checking.{Checked, fine, ◌>>=◌, give}
use Rattle.core_meaning.specs.Entities.{Scope}
use Rattle.core_meaning.specs.Declarations.{Locals, one_local, locals_from}
use Rattle.core_meaning.specs.UnitNames.{Storage, UnitState, declared_one, Members, one_member}
use Rattle.choice_expansions.specs.Steps.{after_each}
use Rattle.declarator_lists.specs.Lists.{Declared, declared_in, trees_of}

-- what declarators are judged in, and whether one was refused
pub record Going (S : Type 0) : Type 0 where
  pub state : S
  pub refused : Bool

abbrev pub after : {S : Type 0} → Going S → Checked S → Going S
after g (fine s bindings) = record { state = s; refused = g.refused }
after g other = record { state = g.state; refused = true }

-- one declarator more
abbrev pub goes_on : {S : Type 0} → (S → Declared → Checked S) → Going S → Declared → Going S
goes_on one g d = after g (one g.state d)

-- the declarators of a list, one after the other
abbrev pub goes_through : {S : Type 0} → (S → Declared → Checked S) → Going S → PlainTrees → Going S
goes_through one g list = after_each (goes_on one) g (declared_in (trees_of list))

-- both are refused, or they come to the same
pub record IsSame {S : Type 0} (a b : Going S) : Type 0 where
  pub refused : a.refused ≡ b.refused
  pub state : b.refused ≡ false → a.state ≡ b.state

-- ---- locals: what is visible, and the types of all slots

pub record Slots : Type 0 where
  pub scope : Scope
  pub slots : List PlainType

abbrev pub slots_of : Locals → Slots
slots_of locals = record { scope = locals.scope; slots = locals.slots }

abbrev pub next_local : PlainType → Slots → Declared → Checked Slots
next_local ty s d = one_local s.scope s.slots ty d.declarator d.initialiser >>= (λ locals. give (slots_of locals))

abbrev pub all_locals : PlainType → Slots → PlainTrees → Checked Slots
all_locals ty s list = locals_from s.scope s.slots ty list >>= (λ locals. give (slots_of locals))

-- ---- members of a struct

abbrev pub next_member : Scope → ℕ → PlainType → Members → Declared → Checked Members
next_member scope number ty known d = one_member scope number known ty d.declarator

-- ---- names of file scope

abbrev pub next_name : ℕ → Storage → PlainType → PlainTrees → UnitState → Declared → Checked UnitState
next_name globals storage ty behind unit d = declared_one globals unit storage ty d.declarator d.initialiser behind
