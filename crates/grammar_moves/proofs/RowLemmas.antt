-- What a token does in a row, behind slots that are left out.
use Rattle.std.proofs.Common.{◌≡◌, ℕ, zero, suc, ◌+◌, ◌<◌, List, ◌∷◌, length, map, drop, get_or, Some, None, refl, sym, ap, ◌∙◌, arith, add-one}
use Rattle.std.proofs.lemmas.List.{drop_more, get_or-map, length-map}
use Rattle.c_tree.specs.declared.terminals.Terminal.{Terminal}
use Rattle.c_tree.specs.Places.{Move, Place, skips, row_move}
use Rattle.grammar_moves.specs.declared.rows.Row.{Row}
use Rattle.grammar_moves.specs.declared.slots.Slot.{Slot}
use Rattle.grammar_moves.specs.declared.moves.Action.{Action}
use Rattle.grammar_moves.specs.Slots.{plain_slot, row_kind, row_slots}
use Rattle.grammar_moves.specs.PlainPlaces.{row_place}
use Rattle.grammar_moves.specs.PlainMoves.{skipping, plain_action, SlotActs}

-- so many slots have been left out, up to a place
pub record Skipped (row : Row) (slots : List Slot) (read : ℕ) (token : Terminal) (skipped place : ℕ) : Type 0 where
  pub all : map plain_slot slots ≡ row_slots row
  pub count : skipped + read ≡ place
  pub so_far :
      row_move (row_kind row) (row_place row) (drop read (row_slots row)) token
      ≡ skipping skipped (row_move (row_kind row) (row_place row) (drop place (row_slots row)) token)

skipping-skips : (n : ℕ) (move : Move) → skipping n (skips move) ≡ skips (skipping n move)
skipping-skips zero move = refl
skipping-skips (suc n) move = ap skips (skipping-skips n move)

skipping-one_more : (n : ℕ) (move : Move) → skipping n (skips move) ≡ skipping (n + 1) move
skipping-one_more n move = skipping-skips n move ∙ ap (λ k. skipping k move) (sym (add-one n))

-- the slot at a place
slot_at : (row : Row) (slots : List Slot) (place : ℕ) (d : Slot) → map plain_slot slots ≡ row_slots row → place < length slots
    → drop place (row_slots row) ≡ plain_slot (get_or slots place d) ∷ drop (place + 1) (row_slots row)
slot_at row slots place d all within = rw (sym all)
    (drop_more (map plain_slot slots) place (plain_slot d) (rw (length-map slots plain_slot) within)
    ∙ ap (λ slot. slot ∷ drop (place + 1) (map plain_slot slots)) (get_or-map plain_slot slots place d (plain_slot d) within))

pub skips_one :
    (row : Row) (slots : List Slot) (read : ℕ) (token : Terminal) (skipped place : ℕ) (d : Slot) (behind : Place)
    → Skipped row slots read token skipped place → place < length slots → SlotActs (plain_slot (get_or slots place d)) behind token None
    → Skipped row slots read token (skipped + 1) (place + 1)
skips_one row slots read token skipped place d behind was within none = record {
  all = was.all;
  count = let c = was.count in omega arith;
  so_far =
      was.so_far
      ∙ ap (λ rest. skipping skipped (row_move (row_kind row) (row_place row) rest token)) (slot_at row slots place d was.all within)
      ∙ ap (skipping skipped) (none (row_kind row) (row_place row) (drop (place + 1) (row_slots row)))
      ∙ skipping-one_more skipped (row_move (row_kind row) (row_place row) (drop (place + 1) (row_slots row)) token);
}

pub acts :
    (row : Row) (slots : List Slot) (read : ℕ) (token : Terminal) (skipped place : ℕ) (d : Slot) (action : Action)
    → Skipped row slots read token skipped place → place < length slots
    → SlotActs (plain_slot (get_or slots place d)) (row_place row (drop (place + 1) (row_slots row))) token (Some action)
    → skipping skipped (plain_action action) ≡ row_move (row_kind row) (row_place row) (drop read (row_slots row)) token
acts row slots read token skipped place d action was within some = sym (
    was.so_far
    ∙ ap (λ rest. skipping skipped (row_move (row_kind row) (row_place row) rest token)) (slot_at row slots place d was.all within)
    ∙ ap (skipping skipped) (some (row_kind row) (row_place row) (drop (place + 1) (row_slots row)) refl))
