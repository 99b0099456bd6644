-- How the entities of a unit are numbered (ISO/IEC 9899:2011, 6.2.1 to 6.2.3): in the order in which the identifiers of the text are first
-- bound to them.
use Rattle.std.specs.Prelude.{◌≡◌, ℕ, suc, ◌==◌, List, [], ◌∷◌, ◌++◌, Option, Some, None, option_map, IsTrue, if◌then◌else◌}
use Rattle.std.specs.List.{AllZip}
use Rattle.core_meaning.specs.Checking.{Entity, local_of_function, file_entity, struct_entity, member_entity, Binding}
use Rattle.bindings.specs.Judged.{same_entity}
use Rattle.renamed_programs.specs.Entities.{Correspondence}

-- how many entities there are up to a place of a unit: structs, those of the units before it too; the members of each struct and the slots
-- of each function, by its number
pub record Counts : Type 0 where
  pub structs : ℕ
  pub members : ℕ → ℕ
  pub slots : ℕ → ℕ

abbrev pub one_more : ℕ → (ℕ → ℕ) → ℕ → ℕ
one_more n counts other = if other == n then suc (counts other) else counts other

abbrev pub with_entity : Counts → Entity → Counts
with_entity counts (local_of_function f slot) = record counts { slots = one_more f counts.slots }
with_entity counts (struct_entity n) = record counts { structs = suc counts.structs }
with_entity counts (member_entity s n) = record counts { members = one_more s counts.members }
with_entity counts other = counts

-- The entity has the next number of its kind, where its kind is numbered: a slot in its function, a struct, a member in its struct. Which
-- number the function has isn't told, since one without parameters and locals takes a number too.
abbrev pub IsNext : Counts → Entity → Type 0
IsNext counts (local_of_function f slot) = slot ≡ counts.slots f
IsNext counts (struct_entity n) = n ≡ counts.structs
IsNext counts (member_entity s n) = n ≡ counts.members s
IsNext counts other = Unit {0}

-- the place of the first identifier that is bound to an entity, if there is one
abbrev pub first_place : Entity → List Binding → Option ℕ
first_place entity [] = None
first_place entity (b ∷ rest) = if same_entity b.entity entity then Some 0 else option_map (λ n. suc n) (first_place entity rest)

-- an entity that occurs for the first time is the next one
abbrev pub IsNumbered : Option ℕ → Counts → Entity → Type 0
IsNumbered (Some place) counts entity = Unit {0}
IsNumbered None counts entity = IsNext counts entity

abbrev pub counted : Option ℕ → Counts → Entity → Counts
counted (Some place) counts entity = counts
counted None counts entity = with_entity counts entity

-- Each entity has the next number of its kind where an identifier is first bound to it, behind the bindings before.
abbrev pub AreNumbered : Counts → List Binding → List Binding → Type 0
AreNumbered counts before [] = Unit {0}
AreNumbered counts before (b ∷ rest) =
    IsNumbered (first_place b.entity before) counts b.entity
    × AreNumbered (counted (first_place b.entity before) counts b.entity) (before ++ b ∷ []) rest

-- ---- two lists of bindings

-- each two identifiers at one place are bound to what is first bound at one place, behind the bindings before
abbrev pub HaveSameFirsts : List Binding → List Binding → List Binding → List Binding → Type 0
HaveSameFirsts before others [] [] = Unit {0}
HaveSameFirsts before others [] (k ∷ ks) = ⊥
HaveSameFirsts before others (j ∷ js) [] = ⊥
HaveSameFirsts before others (j ∷ js) (k ∷ ks) =
    (first_place j.entity before ≡ first_place k.entity others) × HaveSameFirsts (before ++ j ∷ []) (others ++ k ∷ []) js ks

-- names of file scope at one place correspond
abbrev pub AreNamedAt : Correspondence → Entity → Entity → Type 0
AreNamedAt named (file_entity a) (file_entity b) = IsTrue (named a b)
AreNamedAt named a b = Unit {0}

abbrev pub AreNamedSo : Correspondence → List Binding → List Binding → Type 0
AreNamedSo named js ks = AllZip (λ j k. AreNamedAt named j.entity k.entity) js ks
