use Rattle.std.proofs.Common.{◌≡◌, ℕ, Bool, not, ◌||◌, All, map, vec_len}
use Rattle.feature_model.specs.Reading.{implied}
use Rattle.feature_model.specs.ReaderView.{value_in}
use Rattle.feature_model.specs.Bounds.{IsBelow}
use Rattle.feature_model.proofs.connectives.implied.Given as goal

abbrev pub invariant-loop-premise : goal.invariant-loop-premise
invariant-loop-premise l =
    record {
      value : (on : ℕ → Bool)
          → implied (λ a b. not a || b) (map (value_in on) l.premises.items) (value_in on l.formula)
          ≡ implied (λ a b. not a || b) (map (value_in on) l.fn.premises.items) (value_in on l.fn.conclusion);
      below : (count : ℕ) → All (IsBelow count) l.fn.premises.items → IsBelow count l.fn.conclusion
          → All (IsBelow count) l.premises.items × IsBelow count l.formula;
    }

abbrev pub decreases-loop-premise : goal.decreases-loop-premise
decreases-loop-premise l = vec_len l.premises
