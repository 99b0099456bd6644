use Rattle.std.proofs.Common.{ℕ, Bool, IsTrue}
use Rattle.cond_formula.specs.Conditions.{conditions_of, all_true}
use Rattle.grammar_moves.specs.PlainPlaces.{plain_place}
use Rattle.choice_states.specs.Seen.{seen_in}
use Rattle.choice_states.specs.Parts.{parts_fit}
use Rattle.choice_settling.specs.Steps.{SameElsewhere}
use Rattle.choice_settling.specs.LeftOut.{LeavesOut, LeftOut}
use Rattle.choice_settling.proofs.places.left_out.Given as goal

abbrev pub invariant-loop-read : goal.invariant-loop-read
invariant-loop-read l = record {
  elsewhere : SameElsewhere l.here l.initial.parts.items l.parts.items;
  left_out :
      LeavesOut l.count (plain_place l.place) → (on : ℕ → Bool) → IsTrue (all_true on (conditions_of l.here)) → IsTrue (parts_fit (plain_place l.place) (seen_in on l.initial.parts.items))
      → LeftOut l.read (plain_place l.place) (seen_in on l.initial.parts.items) (seen_in on l.parts.items);
}
