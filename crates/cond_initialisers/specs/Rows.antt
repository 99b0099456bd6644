-- What a configuration sees of entries, each with the conditions under which it is refused for some types.
use Rattle.std.specs.Prelude.{ℕ, Bool, true, false, ◌||◌, List, [], ◌∷◌, map, get_or}
use Rattle.cond_formula.specs.Conditions.{condition_of, value}
use Rattle.conditional.specs.declared.entries.Guarded.{Guarded}
use Rattle.conditional.specs.Entries.{entries_of, seen}
use Rattle.c_types.specs.declared.types.CType.{CType}
use Rattle.c_types.specs.Types.{PlainType, plain_type}
use Rattle.cond_initialisers.specs.declared.rows.Row.{Row}
use Rattle.cond_initialisers.specs.Refusals.{RefusedFor}

abbrev pub plain_types : List CType → List PlainType
plain_types types = map plain_type types

-- where an entry is refused for each of these types
abbrev pub asked_for : List PlainType → RefusedFor → List Bool
asked_for types entry = map entry types

abbrev pub asked_each : List PlainType → List RefusedFor → List (List Bool)
asked_each types entries = map (asked_for types) entries

abbrev pub row : (ℕ → Bool) → Row → List Bool
row on r = map (λ f. value on (condition_of f)) r.refused.items

-- the entries that are there
abbrev pub rows : (ℕ → Bool) → List (Guarded Row) → List (List Bool)
rows on list = seen on (entries_of (row on) list)

-- the numbers of types that are there
abbrev pub numbers : (ℕ → Bool) → List (Guarded ℕ) → List ℕ
numbers on list = seen on (entries_of (λ n. n) list)

-- some entry is refused for the first type
abbrev pub some_row : List (List Bool) → Bool
some_row [] = false
some_row (r ∷ rest) = get_or r 0 false || some_row rest

-- entries in pairs with the numbers of types
abbrev pub rows_in_pairs : List (List Bool) → List ℕ → Bool
rows_in_pairs [] ns = false
rows_in_pairs (r ∷ rest) [] = true
rows_in_pairs (r ∷ rest) (n ∷ ns) = get_or r n false || rows_in_pairs rest ns
