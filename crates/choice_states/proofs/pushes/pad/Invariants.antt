use Rattle.std.proofs.Common.{◌≡◌, ◌≤◌, ℕ, Bool, length}
use Rattle.choice_states.specs.Seen.{seen_in}
use Rattle.choice_states.proofs.pushes.pad.Given as goal

abbrev pub invariant-loop : goal.invariant-loop
invariant-loop l = ((on : ℕ → Bool) → seen_in on l.parts.items ≡ seen_in on l.initial.parts.items) × (l.counter ≤ length l.parts.items)
