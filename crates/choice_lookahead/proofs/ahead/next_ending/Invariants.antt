use Rattle.std.proofs.Common.{ℕ, Bool, IsTrue, drop}
use Rattle.cond_formula.specs.Conditions.{conditions_of, all_true}
use Rattle.grammar_moves.specs.PlainPlaces.{plain_place}
use Rattle.choice_lookahead.specs.Ahead.{next_kind}
use Rattle.choice_lookahead.proofs.Asking.{Asked, EndsSo}
use Rattle.choice_lookahead.proofs.ahead.next_ending.Given as goal

abbrev pub invariant-loop-entry : goal.invariant-loop-entry
invariant-loop-entry l =
    (on : ℕ → Bool) → IsTrue (all_true on (conditions_of l.path))
    → Asked (EndsSo (plain_place l.place) l.found) (all_true on (conditions_of l.known.items)) (next_kind on l.ahead) (next_kind on (drop l.entry-index l.ahead))
