use Rattle.std.proofs.Common.{◌≡◌, ℕ, Bool, All, map}
use Rattle.std.specs.VecDeque.{deque_len}
use Rattle.feature_model.specs.ReaderView.{value_in, chained}
use Rattle.feature_model.specs.Bounds.{IsBelow}
use Rattle.feature_model.proofs.connectives.chained_by_equals.Given as goal

abbrev pub invariant-loop-first : goal.invariant-loop-first
invariant-loop-first l =
    record {
      value : (on : ℕ → Bool)
          → chained (map (value_in on) l.operands.items) ≡ chained (map (value_in on) l.fn.operands.items);
      below : (count : ℕ) → All (IsBelow count) l.fn.operands.items → All (IsBelow count) l.operands.items;
    }

abbrev pub decreases-loop-first : goal.decreases-loop-first
decreases-loop-first l = deque_len l.operands
