use Rattle.std.proofs.Common.{◌≡◌, ℕ, Bool, map, drop}
use Rattle.c_text.specs.Macros as spec
use Rattle.cond_bodies.specs.CondItems.{item_at}
use Rattle.cond_bodies.proofs.levels.is_active.Given as goal

abbrev pub invariant-loop-name : goal.invariant-loop-name
invariant-loop-name l = (on : ℕ → Bool) →
    spec.is_named_in (map (λ name. name.now.text.items) (drop l.name-index l.active)) (item_at on l.item).token
    ≡ spec.is_named_in (map (λ name. name.now.text.items) l.active) (item_at on l.item).token
