-- The occurrences of a unit and the names that it declares for all units, told by the numbers that its tokens have in its stream, so that they
-- can be told of all configurations at once (ISO/IEC 9899:2011, 6.2.1 to 6.2.3).
use Rattle.std.specs.Prelude.{◌↔◌, ℕ, List, [], ◌∷◌, map, flat_map, get_or, Option, Some, None, Contains}
use Rattle.cond_pairings.specs.Pairs.{Pair}
use Rattle.program_occurrences.specs.Occurrences.{UnitNames, Occurrence, occurrences_of, CommonName}
use Rattle.name_spaces.specs.Laws.{declared_name}

-- ---- what there is in a unit

-- the number that a token has in the stream, by its number among the tokens that a configuration sees
abbrev pub number_in : List ℕ → ℕ → ℕ
number_in numbers token = get_or numbers token 0

-- an identifier with the one that declares it
abbrev pub pair_of : List ℕ → Occurrence → Pair
pair_of numbers o = record { identifier = number_in numbers o.identifier.number; declared_by = number_in numbers o.declared_by.number }

abbrev pub pairs_of : List ℕ → UnitNames → List Pair
pairs_of numbers unit = map (pair_of numbers) (occurrences_of unit)

-- an identifier that declares a name which units have in common
pub record NumberedName : Type 0 where
  pub number : ℕ
  pub name : CommonName

abbrev pub numbered : ℕ → Option CommonName → List NumberedName
numbered number None = []
numbered number (Some name) = record { number = number; name = name } ∷ []

abbrev pub names_of : List ℕ → UnitNames → List NumberedName
names_of numbers unit = flat_map (λ o. numbered (number_in numbers o.identifier.number) (declared_name unit o)) (occurrences_of unit)

-- ---- what is told of it

-- these and no others, in whatever order and however often
abbrev pub HaveSame : {A : Type 0} → List A → List A → Type 0
HaveSame xs ys = (x : _) → Contains xs x ↔ Contains ys x

-- All its occurrences are told, and all names in common that it declares, and nothing else.
pub record IsTold (numbers : List ℕ) (unit : UnitNames) (pairs : List Pair) (names : List NumberedName) : Type 0 where
  pub pairs_are : HaveSame pairs (pairs_of numbers unit)
  pub names_are : HaveSame names (names_of numbers unit)
