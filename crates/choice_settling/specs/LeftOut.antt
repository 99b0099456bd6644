-- Parts that a token leaves out.
use Rattle.std.specs.Prelude.{◌≡◌, ℕ, zero, suc, List, [], ◌∷◌, ◌++◌, IsTrue}
use Rattle.c_tree.specs.declared.terminals.Terminal.{Terminal}
use Rattle.c_tree.specs.Places.{Place, Move, move}
use Rattle.grammar_moves.specs.PlainMoves.{skipping}
use Rattle.choice_states.specs.Seen.{Seen, Parts, nothing_seen}
use Rattle.choice_states.specs.Parts.{values, parts_fit}
use Rattle.choice_states.specs.Lists.{left_out}

-- so many parts of which nothing is there
abbrev pub nothings : ℕ → List Seen
nothings zero = []
nothings (suc n) = nothing_seen ∷ nothings n

-- some token leaves so many parts out at a place
pub record LeavesOut (count : ℕ) (place : Place) : Type 0 where
  pub token : Terminal
  pub next : Move
  pub is : move place token ≡ skipping count next

-- one stands behind so many parts that are left out
pub record LeftOut (count : ℕ) (place : Place) (old new : Parts) : Type 0 where
  pub values_are : values new ≡ values old ++ nothings count
  pub fit : IsTrue (parts_fit (left_out count place) new)
