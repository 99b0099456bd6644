use Rattle.std.proofs.Common.{◌+◌, ◌*◌, ◌≡◌, ℕ, Bool, true, not, ◌&&◌, List, drop, IsTrue}
use Rattle.c_text.specs.Token.{plain_token}
use Rattle.c_text.specs.Macros as spec
use Rattle.cond_formula.specs.Features.{has}
use Rattle.cond_formula.specs.Conditions.{condition_of, value}
use Rattle.cond_bodies.specs.CondItems.{item_at, items_at}
use Rattle.cond_runs.specs.CondArguments.{lists_at}
use Rattle.cond_runs.specs.CondCalls.{calls_at}
use Rattle.cond_runs.specs.CondRuns.{run_at}
use Rattle.cond_macros.specs.CondLevels.{macros_in, active_in, deeper_in, is_within, replaced_at}
use Rattle.cond_macros.specs.Below.{all_cores_of, behind_lists}
use Rattle.cond_macros.specs.Owned.{AreOwn}
use Rattle.cond_macros.specs.Readings.{look, ListBecomes}
use Rattle.cond_runs.specs.Pieces.{also, some_open, without_calls, turn_pieces}
use Rattle.cond_macros.proofs.replacing.+lists.Given as goal

abbrev pub decreases-deeper : goal.decreases-deeper
decreases-deeper g l = 16 * l.level.now.left

abbrev pub decreases-replacement : goal.decreases-replacement
decreases-replacement g l = 16 * l.level.now.left + 1

abbrev pub decreases-arguments_replaced : goal.decreases-arguments_replaced
decreases-arguments_replaced g l = 16 * l.level.now.left + 1

abbrev pub decreases-fitting_brought : goal.decreases-fitting_brought
decreases-fitting_brought g l = 16 * l.level.now.left + 2

abbrev pub decreases-brought : goal.decreases-brought
decreases-brought g l = 16 * l.level.now.left + 3

abbrev pub decreases-called : goal.decreases-called
decreases-called g l = 16 * l.level.now.left + 4

abbrev pub decreases-object_turn : goal.decreases-object_turn
decreases-object_turn g l = 16 * l.level.now.left + 2

abbrev pub decreases-present_turn : goal.decreases-present_turn
decreases-present_turn g l = 16 * l.level.now.left + 5

abbrev pub decreases-call_turn : goal.decreases-call_turn
decreases-call_turn g l = 16 * l.level.now.left + 6

abbrev pub decreases-inside_turn : goal.decreases-inside_turn
decreases-inside_turn g l = 16 * l.level.now.left + 7

abbrev pub decreases-name_turn : goal.decreases-name_turn
decreases-name_turn g l = 16 * l.level.now.left + 3

abbrev pub decreases-outside_turn : goal.decreases-outside_turn
decreases-outside_turn g l = 16 * l.level.now.left + 4

abbrev pub decreases-turn : goal.decreases-turn
decreases-turn g l = 16 * l.level.now.left + 8

abbrev pub decreases-replaced_list : goal.decreases-replaced_list
decreases-replaced_list g l = 16 * l.level.now.left + 9

abbrev pub invariant-arguments_replaced-loop-argument : goal.invariant-arguments_replaced-loop-argument
invariant-arguments_replaced-loop-argument g l = record {
  kept : g.O.Oracle.admits l.oracle ≡ g.O.Oracle.admits l.fn.oracle;
  replaced : (c : List Bool) → IsTrue (value (has c) (g.O.Oracle.admits l.fn.oracle)) → IsTrue (value (has c) (condition_of l.within)) →
      behind_lists (replaced_at (has c) l.replaced) (all_cores_of (spec.all_replaced (deeper_in c l.level) (active_in l.level) (lists_at (has c) (drop l.argument-index l.arguments))))
      ≡ all_cores_of (spec.all_replaced (deeper_in c l.level) (active_in l.level) (lists_at (has c) l.arguments));
}

abbrev pub invariant-inside_turn-loop-call : goal.invariant-inside_turn-loop-call
invariant-inside_turn-loop-call g l = record {
  kept : g.O.Oracle.admits l.oracle ≡ g.O.Oracle.admits l.fn.oracle;
  outside : (on : ℕ → Bool) → value on (condition_of l.outside) ≡ (value on (condition_of l.entry.when) && not (some_open (calls_at on l.yielded)));
  read : (exact : Bool) (c : List Bool) → IsTrue (value (has c) (g.O.Oracle.admits l.fn.oracle)) → IsTrue (is_within c l.level) →
      run_at exact (has c) l.run ≡ also (without_calls (run_at exact (has c) l.fn.run)) (turn_pieces exact (macros_in c l.level) (deeper_in c l.level) (active_in l.level) (value (has c) (condition_of l.entry.when)) (calls_at (has c) l.yielded) (item_at (has c) l.entry.what) (plain_token l.entry.what.token.now));
}

abbrev pub invariant-replaced_list-loop-i : goal.invariant-replaced_list-loop-i
invariant-replaced_list-loop-i g l = record {
  kept : g.O.Oracle.admits l.oracle ≡ g.O.Oracle.admits l.fn.oracle;
  reads : (exact : Bool) (c : List Bool) → IsTrue (value (has c) (g.O.Oracle.admits l.fn.oracle)) → IsTrue (is_within c l.level) → (exact ≡ true → AreOwn l.items) →
      ListBecomes exact (macros_in c l.level) (deeper_in c l.level) (active_in l.level) (run_at exact (has c) l.run) (items_at (has c) (drop l.i l.items)) (look exact (spec.outside (macros_in c l.level) (deeper_in c l.level) (active_in l.level) (items_at (has c) l.items)));
}
