-- How the slots of a function are numbered (ISO/IEC 9899:2011, 6.2.1): in the order of its text.
use Rattle.std.specs.Prelude.{◌≡◌, ℕ, suc, ◌==◌, ◌≤◌, ◌<◌, false, List, [], ◌∷◌, Option, Some, is_some, IsTrue, if◌then◌else◌}
use Rattle.c_tree.specs.declared.kinds.Kind.TheVariants as k
use Rattle.c_tree.specs.declared.terminals.Terminal.TheVariants as t
use Rattle.c_tree.specs.Trees.{PlainTree, PlainTrees, node, none, more}
use Rattle.c_tree.specs.Grammar.{is_lone_void}
use Rattle.core_meaning.specs.Checking.{Entity, local_entity, Binding}
use Rattle.core_meaning.specs.Entities.{Local, Scope, local_in}
use Rattle.core_meaning.specs.Declarations.{name_in, behind_word}

-- where so many slots are taken, a slot is one of these or the next
abbrev pub IsSlotInTurn : ℕ → Entity → Type 0
IsSlotInTurn taken (local_entity slot) = slot ≤ taken
IsSlotInTurn taken other = Unit {0}

abbrev pub with_slot : ℕ → Entity → ℕ
with_slot taken (local_entity slot) = if slot == taken then suc taken else taken
with_slot taken other = taken

-- Each slot is one of those that are taken, or the next, from so many slots to so many.
abbrev pub AreSlotsInTurn : ℕ → List Binding → ℕ → Type 0
AreSlotsInTurn taken [] behind = taken ≡ behind
AreSlotsInTurn taken (b ∷ rest) behind = IsSlotInTurn taken b.entity × AreSlotsInTurn (with_slot taken b.entity) rest behind

-- the locals that are visible have slots that are taken
abbrev pub AreVisibleTaken : ℕ → Scope → Type 0
AreVisibleTaken taken scope = (name : List ℕ) (l : Local) → local_in scope.blocks name ≡ Some l → l.slot < taken

-- ---- parameters

-- a parameter with a name
abbrev pub IsNamed : PlainTree → Type 0
IsNamed (node kind (more words (more (node k.Absent parts) none))) = ⊥
IsNamed (node kind (more words (more (node inner parts) none))) = IsTrue (is_some (name_in parts))
IsNamed other = Unit {0}

abbrev pub AreNamed : PlainTrees → Type 0
AreNamed none = Unit {0}
AreNamed (more tree rest) = IsNamed tree × AreNamed rest

-- The parameters of a function's definition have names, but for the lone `void` (6.9.1).
abbrev pub HasNamedParameters : Option PlainTree → Type 0
HasNamedParameters (Some (node k.Parameters parts)) = is_lone_void parts ≡ false → AreNamed parts
HasNamedParameters other = Unit {0}

-- so for each function that a unit defines
abbrev pub IsNamedFunction : PlainTree → Type 0
IsNamedFunction (node k.Function (more words (more (node list (more (node kind parts) none)) rest))) = HasNamedParameters (behind_word t.OpenParenthesis parts)
IsNamedFunction other = Unit {0}

abbrev pub AreNamedFunctions : PlainTrees → Type 0
AreNamedFunctions none = Unit {0}
AreNamedFunctions (more tree rest) = IsNamedFunction tree × AreNamedFunctions rest

abbrev pub HasNamedFunctions : PlainTree → Type 0
HasNamedFunctions (node k.Unit items) = AreNamedFunctions items
HasNamedFunctions other = Unit {0}
