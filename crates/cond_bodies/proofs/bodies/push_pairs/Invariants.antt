use Rattle.std.proofs.Common.{◌≡◌, ℕ, Bool, true, [], if◌then◌else◌, ◌++◌, map, drop}
use Rattle.c_text.specs.Token.{plain_token}
use Rattle.cond_formula.specs.Conditions.{condition_of, value}
use Rattle.cond_bodies.specs.Slots.{slots_at, slot_of}
use Rattle.cond_bodies.proofs.bodies.push_pairs.Given as goal

abbrev pub invariant-loop-i : goal.invariant-loop-i
invariant-loop-i l = (on : ℕ → Bool) → (value on (condition_of l.when) ≡ true → slots_at on l.slots ≡ []) →
    slots_at on l.all.items ++ (if value on (condition_of l.when) then map (slot_of (map (λ n. n.items) l.params)) (map plain_token (drop l.i l.tokens)) else slots_at on (drop l.i l.slots))
    ≡ slots_at on l.fn.all.items ++ (if value on (condition_of l.when) then map (slot_of (map (λ n. n.items) l.params)) (map plain_token l.tokens) else slots_at on l.slots)
