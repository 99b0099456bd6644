-- A list that is read in part, seen in a configuration.
use Rattle.std.specs.Prelude.{◌≡◌, ℕ, Bool, true, ⊤, List, [], ◌∷◌, ◌++◌, map, Option, Some, None}
use Rattle.c_text.specs.Macros as spec
use Rattle.cond_runs.specs.Looked.{looked}
use Rattle.cond_runs.specs.Pieces.{Piece, Held}

-- what a list becomes, as it is or but for sites and places
abbrev pub look : Bool → spec.Replaced → Option (List spec.Item)
look exact (spec.fine items) = Some (map (looked exact) items)
look exact (spec.bad_call name) = None

abbrev pub prepended : List spec.Item → Option (List spec.Item) → Option (List spec.Item)
prepended items None = None
prepended items (Some others) = Some (items ++ others)

-- one call is open at most, and its name is its own token where sites are looked at
abbrev pub IsSound : Bool → List Held → Type 0
IsSound exact [] = ⊤
IsSound exact (held ∷ []) = exact ≡ true → held.first ≡ held.call.name
IsSound exact (held ∷ other ∷ calls) = ⊥

module _ (exact : Bool) (table : spec.Table) (deeper : spec.Deeper) (active : List (List ℕ)) where
  -- what items become behind these open calls
  abbrev pub items_behind : List Held → List spec.Item → Option (List spec.Item)
  items_behind [] rest = look exact (spec.outside table deeper active rest)
  items_behind (held ∷ []) rest = look exact (spec.inside table deeper active held.call rest)
  items_behind (held ∷ other ∷ calls) rest = None

  abbrev pub goes_on : Option Piece → List spec.Item → Option (List spec.Item)
  goes_on None rest = None
  goes_on (Some piece) rest = prepended piece.done (items_behind piece.open_calls rest)

  abbrev pub IsSoundPiece : Option Piece → Type 0
  IsSoundPiece None = ⊤
  IsSoundPiece (Some piece) = IsSound exact piece.open_calls

  -- with these items still to be read, the list becomes this
  pub record ListBecomes (so_far : Option Piece) (rest : List spec.Item) (becomes : Option (List spec.Item)) : Type 0 where
    pub sound : IsSoundPiece so_far
    pub same : goes_on so_far rest ≡ becomes
