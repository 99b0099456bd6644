use Rattle.std.proofs.Common.{◌≡◌, ℕ, Bool, map, IsTrue}
use Rattle.cond_formula.specs.Conditions.{conditions_of, all_true}
use Rattle.choice_states.specs.Seen.{choice_seen}
use Rattle.choice_states.proofs.copies.kept_parts.Given as goal

abbrev pub invariant-loop-part : goal.invariant-loop-part
invariant-loop-part l =
    (on : ℕ → Bool) → IsTrue (all_true on (conditions_of l.known)) → map (choice_seen on) l.kept.items ≡ map (choice_seen on) l.yielded
