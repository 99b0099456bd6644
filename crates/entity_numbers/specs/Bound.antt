-- What identifiers of a unit are bound to (ISO/IEC 9899:2011, 6.2.1): slots of functions alone, and what an expression uses is bound before it.
use Rattle.std.specs.Prelude.{◌≡◌, true, List, [], ◌∷◌, ◌++◌, None}
use Rattle.std.specs.List.{AllByRecursion}
use Rattle.core_meaning.specs.Checking.{Entity, local_entity, Binding}
use Rattle.entity_numbers.specs.Numbered.{first_place}

-- a slot without a function is bound to in no unit
abbrev pub IsOfUnit : Entity → Type 0
IsOfUnit (local_entity slot) = ⊥
IsOfUnit other = Unit {0}

abbrev pub AreOfUnit : List Binding → Type 0
AreOfUnit bindings = AllByRecursion (λ b. IsOfUnit b.entity) bindings

-- To what an expression uses another identifier is bound before, behind the bindings before.
abbrev pub AreUsedBehind : List Binding → List Binding → Type 0
AreUsedBehind before [] = Unit {0}
AreUsedBehind before (b ∷ rest) = (b.in_expression ≡ true → first_place b.entity before ≡ None → ⊥) × AreUsedBehind (before ++ b ∷ []) rest
