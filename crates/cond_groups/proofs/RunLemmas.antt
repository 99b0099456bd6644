-- What replaces a run of tokens where a condition holds.
use Rattle.std.proofs.Common.{◌≡◌, ℕ, Bool, true, false, List, [], ◌∷◌, map, IsTrue, Some, None, refl, ap, ◌∙◌}
use Rattle.std.specs.Prelude.{if◌then◌else◌, ◌&&◌}
use Rattle.std.specs.Option.{option_map}
use Rattle.conditional.specs.Entries.{under, seen}
use Rattle.c_text.specs.Token.{PlainToken}
use Rattle.c_text.specs.Macros.{Table, Replaced, fine, bad_call, replaced}
use Rattle.c_text.specs.Preprocessing.{Reading, emitted}
use Rattle.cond_macros.specs.Outcomes.{is_bad_call, tokens_of}
use Rattle.cond_readings.specs.Readings.{unless_refused, with_tokens, came_to, taken}
use Rattle.cond_readings.specs.TakenLaws.{with-none}
use Rattle.cond_groups.specs.Truths.{always_entry}

pub seen-always : {X : Type 0} (on : ℕ → Bool) (form : X → PlainToken) (xs : List X) → seen on (map (λ x. always_entry (form x)) xs) ≡ map form xs
seen-always on form [] = refl
seen-always on form (x ∷ xs) = ap (λ us. form x ∷ us) (seen-always on form xs)

emitted-there : (rf : Bool) (r : Reading) (run list : List PlainToken) (p : Replaced) → rf ≡ is_bad_call p → (is_bad_call p ≡ false → list ≡ tokens_of p) → unless_refused rf (Some (with_tokens list r)) ≡ came_to (emitted r run None p)
emitted-there rf r run list (fine items) bad tokens =
    ap (λ (k : Bool). unless_refused k (Some (with_tokens list r))) bad ∙ ap (λ (ts : List PlainToken). Some (with_tokens ts r)) (tokens refl)
emitted-there rf r run list (bad_call name) bad tokens =
    ap (λ (k : Bool). unless_refused k (Some (with_tokens list r))) bad

-- what replaces a run is appended where the condition holds
pub emitted-is : (a b rf : Bool) (table : Table) (ts run list : List PlainToken) → (IsTrue b → rf ≡ is_bad_call (replaced table run)) → (IsTrue b → is_bad_call (replaced table run) ≡ false → list ≡ tokens_of (replaced table run)) → unless_refused (b && rf) (option_map (with_tokens (under b list)) (if a then None else Some (record { table = table; tokens = ts }))) ≡ taken b (λ r. emitted r run None (replaced r.table run)) (if a then None else Some (record { table = table; tokens = ts }))
emitted-is true true true table ts run list bad tokens = refl
emitted-is true true false table ts run list bad tokens = refl
emitted-is true false rf table ts run list bad tokens = refl
emitted-is false true rf table ts run list bad tokens =
    emitted-there rf (record { table = table; tokens = ts }) run list (replaced table run) (bad refl) (tokens refl)
emitted-is false false rf table ts run list bad tokens = with-none (Some (record { table = table; tokens = ts }))
