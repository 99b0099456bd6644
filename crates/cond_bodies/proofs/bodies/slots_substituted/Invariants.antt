use Rattle.std.proofs.Common.{◌≡◌, ℕ, Bool, ◌++◌, map, drop}
use Rattle.std.specs.List.{flat_map}
use Rattle.cond_bodies.specs.Cores.{cores}
use Rattle.cond_bodies.specs.CondItems.{items_at}
use Rattle.cond_bodies.specs.Slots.{slots_at, slot_items}
use Rattle.cond_bodies.proofs.bodies.slots_substituted.Given as goal

abbrev pub invariant-loop-entry : goal.invariant-loop-entry
invariant-loop-entry l = (on : ℕ → Bool) →
    cores (items_at on l.items.items) ++ cores (flat_map (slot_items (map (λ a. items_at on a.items) l.arguments)) (slots_at on (drop l.entry-index l.slots)))
    ≡ cores (flat_map (slot_items (map (λ a. items_at on a.items) l.arguments)) (slots_at on l.slots))
