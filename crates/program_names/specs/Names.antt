-- Which names of file scope of two programs correspond: those that identifiers at one place stand for (ISO/IEC 9899:2011, 6.2.1, 6.2.2).
use Rattle.std.specs.Prelude.{◌≡◌, ℕ, zero, suc, Bool, false, ◌&&◌, ◌||◌, List, [], ◌∷◌, codes}
use Rattle.std.specs.List.{AllZip}
use Rattle.std.specs.Str.{bytes_eq}
use Rattle.core_meaning.specs.Checking.{Entity, file_entity}
use Rattle.bindings.specs.Judged.{Identified}
use Rattle.renamed_programs.specs.Entities.{Correspondence}
use Rattle.program_occurrences.specs.Occurrences.{UnitNames}

abbrev pub are_names : List ℕ → List ℕ → Entity → Entity → Bool
are_names a b (file_entity x) (file_entity y) = bytes_eq x a && bytes_eq y b
are_names a b e f = false

-- some two identifiers at one place stand for these names
abbrev pub stand_at_one_place : List ℕ → List ℕ → List Identified → List Identified → Bool
stand_at_one_place a b [] others = false
stand_at_one_place a b (i ∷ rest) [] = false
stand_at_one_place a b (i ∷ rest) (j ∷ others) = are_names a b i.entity j.entity || stand_at_one_place a b rest others

-- the names of two programs, unit by unit
abbrev pub names_at_places : List UnitNames → List UnitNames → ℕ → Correspondence
names_at_places [] others index a b = false
names_at_places (unit ∷ units) [] index a b = false
names_at_places (unit ∷ units) (other ∷ others) zero a b = stand_at_one_place a b unit.identified other.identified
names_at_places (unit ∷ units) (other ∷ others) (suc index) a b = names_at_places units others index a b

-- ---- `main`, which no link tells apart (5.1.2.2.1)

abbrev pub is_main : Identified → Bool
is_main i = bytes_eq i.token.text (codes "main")

-- at each place `main` is written in both or in neither
abbrev pub HaveMainAlike : List UnitNames → List UnitNames → Type 0
HaveMainAlike units others = AllZip (λ unit other. AllZip (λ i j. is_main i ≡ is_main j) unit.identified other.identified) units others
