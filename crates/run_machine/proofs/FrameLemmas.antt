-- Slots that get an object, and get back what they had.
use Rattle.std.proofs.Common.{◌≡◌, ℕ, zero, suc, ◌<◌, ◌==◌, cond, List, [], ◌∷◌, set, get_or, length, map, replicate, refl, sym, ap, ◌∙◌, Option, Some, None, arith}
use Rattle.std.proofs.Math.Dec.{eqb-suc-zero, eqb-zero-suc, eqb-suc-suc}
use Rattle.std.proofs.lemmas.List.{set-get_or}
use Rattle.std.specs.List.{slice_get}
use Rattle.c_types.specs.declared.types.CType.{CType}
use Rattle.c_types.specs.Types.{plain_type}
use Rattle.core_meaning.specs.Meaning.{Frame, with_slot}
use Rattle.core_cells.specs.PathLaws.{same_at}
use Rattle.interp_actions.specs.Forms.{held_in, plain_frame}
use Rattle.run_machine.specs.Frames.{no_slots}

abbrev frame_with : List CType → (ℕ → Option ℕ) → Frame
frame_with types objects = record { types = map plain_type types; objects = objects }

held_after : (slots : List (Option ℕ)) (k object j : ℕ) → k < length slots → held_in (slice_get (set slots k (Some object)) j) ≡ cond (j == k) (Some object) (held_in (slice_get slots j))
held_after [] k object j within = absurd (omega (arith, within))
held_after (x ∷ slots) zero object zero within = refl
held_after (x ∷ slots) zero object (suc j) within = ap (λ b. cond b (Some object) (held_in (slice_get slots j))) (sym (eqb-suc-zero j))
held_after (x ∷ slots) (suc k) object zero within = ap (λ b. cond b (Some object) x) (sym (eqb-zero-suc k))
held_after (x ∷ slots) (suc k) object (suc j) within =
    held_after slots k object j (omega (arith, within))
    ∙ ap (λ b. cond b (Some object) (held_in (slice_get slots j))) (sym (eqb-suc-suc j k))

pub slot_set : (types : List CType) (slots : List (Option ℕ)) (k object : ℕ) → k < length slots → plain_frame types (set slots k (Some object)) ≡ with_slot (plain_frame types slots) k object
slot_set types slots k object within = ap (frame_with types) (same_at _ _ (λ j. held_after slots k object j within))

set_twice : (slots : List (Option ℕ)) (k : ℕ) (v w : Option ℕ) → set (set slots k v) k w ≡ set slots k w
set_twice [] k v w = refl
set_twice (x ∷ slots) zero v w = refl
set_twice (x ∷ slots) (suc k) v w = ap (λ rest. x ∷ rest) (set_twice slots k v w)

pub slot_restored : (slots : List (Option ℕ)) (k : ℕ) (v held : Option ℕ) → held ≡ get_or slots k held → set (set slots k v) k held ≡ slots
slot_restored slots k v held same =
    set_twice slots k v held ∙ (ap (set slots k) same ∙ set-get_or slots k held)

none_held : (n j : ℕ) → held_in (slice_get (replicate n None) j) ≡ None
none_held zero j = refl
none_held (suc n) zero = refl
none_held (suc n) (suc j) = none_held n j

pub nothing_declared : (types : List CType) → plain_frame types (no_slots types) ≡ record { types = map plain_type types; objects = λ k. None }
nothing_declared types = ap (frame_with types) (same_at _ _ (none_held (length types)))
