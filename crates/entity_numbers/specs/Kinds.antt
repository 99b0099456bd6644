-- Identifiers of two units that declare things of one kind at one place (ISO/IEC 9899:2011, 6.2.1 to 6.2.3).
use Rattle.std.specs.Prelude.{◌≡◌, ℕ, Bool, true, false, List, [], ◌∷◌, ◌⊎◌}
use Rattle.core_meaning.specs.Checking.{Entity, local_entity, local_of_function, file_entity, struct_entity, member_entity, own_entity, Binding}

-- structs that are named at one place, by their numbers in the one unit and in the other
abbrev pub Ties : Type 0
Ties = List (ℕ × ℕ)

abbrev pub AreTied : ℕ → ℕ → Ties → Type 0
AreTied m n [] = ⊥
AreTied m n (tie ∷ rest) = ((tie.0 ≡ m) × (tie.1 ≡ n)) ⊎ AreTied m n rest

abbrev pub with_tie : Ties → Entity → Entity → Ties
with_tie ties (struct_entity m) (struct_entity n) = (m, n) ∷ ties
with_tie ties a b = ties

-- what expressions use: objects and functions, and members of structs
abbrev pub IsUsable : Entity → Type 0
IsUsable (struct_entity n) = ⊥
IsUsable own_entity = ⊥
IsUsable other = Unit {0}

-- Two names of file scope, two tags, two parameters of declarations; slots of functions with one number, or of no function yet; members of
-- structs that are named at one place before.
abbrev pub AreDeclaredAlike : Ties → Entity → Entity → Type 0
AreDeclaredAlike ties (local_entity m) (local_entity n) = Unit {0}
AreDeclaredAlike ties (local_of_function f m) (local_of_function g n) = f ≡ g
AreDeclaredAlike ties (file_entity a) (file_entity b) = Unit {0}
AreDeclaredAlike ties (struct_entity m) (struct_entity n) = Unit {0}
AreDeclaredAlike ties (member_entity s m) (member_entity t n) = AreTied s t ties
AreDeclaredAlike ties own_entity own_entity = Unit {0}
AreDeclaredAlike ties a b = ⊥

-- Expressions use both, of which nothing more is said; or they use neither, and both are of one kind.
abbrev pub AreMeantAlike : Ties → Bool → Bool → Entity → Entity → Type 0
AreMeantAlike ties true true a b = IsUsable a × IsUsable b
AreMeantAlike ties false false a b = AreDeclaredAlike ties a b
AreMeantAlike ties used other a b = ⊥

-- identifier by identifier, behind structs that are tied so
abbrev pub AreKindsAlike : Ties → List Binding → List Binding → Type 0
AreKindsAlike ties [] [] = Unit {0}
AreKindsAlike ties [] (k ∷ ks) = ⊥
AreKindsAlike ties (j ∷ js) [] = ⊥
AreKindsAlike ties (j ∷ js) (k ∷ ks) =
    AreMeantAlike ties j.in_expression k.in_expression j.entity k.entity × AreKindsAlike (with_tie ties j.entity k.entity) js ks
