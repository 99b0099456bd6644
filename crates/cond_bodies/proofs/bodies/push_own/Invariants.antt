use Rattle.std.proofs.Common.{◌≡◌, ℕ, Bool, ◌++◌, map, drop}
use Rattle.c_text.specs.Token.{plain_token}
use Rattle.cond_formula.specs.Conditions.{condition_of, value}
use Rattle.conditional.specs.Entries.{under}
use Rattle.cond_bodies.specs.Slots.{slots_at, slot_of}
use Rattle.cond_bodies.proofs.bodies.push_own.Given as goal

abbrev pub invariant-loop-token : goal.invariant-loop-token
invariant-loop-token l = (on : ℕ → Bool) →
    slots_at on l.all.items ++ under (value on (condition_of l.when)) (map (slot_of (map (λ n. n.items) l.params)) (map plain_token (drop l.token-index l.tokens)))
    ≡ slots_at on l.fn.all.items ++ under (value on (condition_of l.when)) (map (slot_of (map (λ n. n.items) l.params)) (map plain_token l.tokens))
