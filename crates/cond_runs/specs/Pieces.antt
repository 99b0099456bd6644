-- What the items of a list give one after the other: items, and calls that are open; nothing where a call is refused.
use Rattle.std.specs.Prelude.{ℕ, Bool, true, false, List, [], ◌∷◌, ◌++◌, map, Option, Some, None}
use Rattle.std.specs.Option.{option_map}
use Rattle.c_text.specs.Token.{PlainToken}
use Rattle.c_text.specs.Macros as spec
use Rattle.cond_runs.specs.Looked.{looked}

-- an open call, and the token by which what it brings has its site
pub record Held : Type 0 where
  pub call : spec.Call
  pub first : PlainToken

pub record Piece : Type 0 where
  pub done : List spec.Item
  pub open_calls : List Held

abbrev pub nothing_done : Option Piece
nothing_done = Some (record { done = []; open_calls = [] })

abbrev pub unless_refused : Bool → Piece → Option Piece
unless_refused true piece = None
unless_refused false piece = Some piece

-- one piece behind another
abbrev pub also : Option Piece → Option Piece → Option Piece
also None more = None
also (Some piece) None = None
also (Some piece) (Some more) = Some (record { done = piece.done ++ more.done; open_calls = piece.open_calls ++ more.open_calls })

-- a piece where a condition holds
abbrev pub under_piece : Bool → Option Piece → Option Piece
under_piece true piece = piece
under_piece false piece = nothing_done

abbrev pub items_piece : Bool → List spec.Item → Option Piece
items_piece exact items = Some (record { done = map (looked exact) items; open_calls = [] })

abbrev pub given_piece : Bool → Option (List spec.Item) → Option Piece
given_piece exact None = None
given_piece exact (Some items) = items_piece exact items

abbrev pub open_piece : List Held → Option Piece
open_piece calls = Some (record { done = []; open_calls = calls })

abbrev pub some_open : List Held → Bool
some_open [] = false
some_open (held ∷ calls) = true

-- what a list becomes that has no more items: an open call is refused
abbrev pub ended : Option Piece → Option (List spec.Item)
ended None = None
ended (Some piece) = ended_with piece.done piece.open_calls where
  ended_with : List spec.Item → List Held → Option (List spec.Item)
  ended_with done [] = Some done
  ended_with done (held ∷ calls) = None

-- the same items without the calls
abbrev pub without_calls : Option Piece → Option Piece
without_calls None = None
without_calls (Some piece) = Some (record { done = piece.done; open_calls = [] })

abbrev pub brought_again : PlainToken → PlainToken → Option (List spec.Item) → Option (List spec.Item)
brought_again first last items = option_map (map (spec.brought first last)) items

module _ (exact : Bool) (table : spec.Table) (deeper : spec.Deeper) (active : List (List ℕ)) where
  -- what an open call gives behind its next item, which ends with this token
  abbrev pub progress_piece : Held → spec.Progress → PlainToken → PlainToken → Option Piece
  progress_piece held spec.ends token last = given_piece exact (brought_again held.first last (spec.call_replacement table deeper active held.call token))
  progress_piece held (spec.goes_on next) token last = open_piece (record { call = next; first = held.first } ∷ [])

  -- an open call behind an item that is present or isn't
  abbrev pub turn_piece : Bool → Held → spec.Item → PlainToken → Option Piece
  turn_piece false held item last = open_piece (held ∷ [])
  turn_piece true held item last = progress_piece held (spec.progress held.call item) item.token last

  -- all open calls
  abbrev pub turn_pieces : Bool → List Held → spec.Item → PlainToken → Option Piece
  turn_pieces present [] item last = nothing_done
  turn_pieces present (held ∷ calls) item last = also (turn_piece present held item last) (turn_pieces present calls item last)

  -- what an item gives outside calls
  abbrev pub outside_piece : spec.Item → PlainToken → spec.Treatment → Option Piece
  outside_piece item own (spec.stays kept) = items_piece exact (kept ∷ [])
  outside_piece item own (spec.is_feature one) = items_piece exact (spec.brought own own (spec.fresh one) ∷ [])
  outside_piece item own (spec.is_object body) = given_piece exact (brought_again own own (spec.replacement table deeper active item.token item.token (map spec.fresh body)))
  outside_piece item own (spec.is_call params body) = open_piece (record { call = spec.begun item.token params body; first = own } ∷ [])
