-- Entities of two units that correspond, and identifiers that are bound alike (ISO/IEC 9899:2011, 6.2.1 to 6.2.3).
use Rattle.std.specs.Prelude.{◌≡◌, ℕ, Bool, List, IsTrue}
use Rattle.std.specs.List.{AllZip}
use Rattle.core_meaning.specs.Checking.{Entity, local_entity, local_of_function, file_entity, struct_entity, member_entity, own_entity, Binding}

-- whether a name of file scope of one unit corresponds to one of another
abbrev pub Correspondence : Type 0
Correspondence = List ℕ → List ℕ → Bool

-- Names of file scope correspond as they are said to; parameters and locals by their slots, structs and members by their numbers.
abbrev pub SameEntity : Correspondence → Entity → Entity → Type 0
SameEntity named (local_entity m) (local_entity n) = m ≡ n
SameEntity named (local_of_function f m) (local_of_function g n) = (f ≡ g) × (m ≡ n)
SameEntity named (file_entity a) (file_entity b) = IsTrue (named a b)
SameEntity named (struct_entity m) (struct_entity n) = m ≡ n
SameEntity named (member_entity s m) (member_entity t n) = (s ≡ t) × (m ≡ n)
SameEntity named own_entity own_entity = Unit {0}
SameEntity named a b = ⊥

abbrev pub SameBinding : Correspondence → Binding → Binding → Type 0
SameBinding named a b = SameEntity named a.entity b.entity

-- identifier by identifier
abbrev pub AreBoundAlike : Correspondence → List Binding → List Binding → Type 0
AreBoundAlike named bindings others = AllZip (SameBinding named) bindings others
