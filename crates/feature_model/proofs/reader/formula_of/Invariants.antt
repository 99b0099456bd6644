use Rattle.std.proofs.Common.{◌≡◌, ℕ, Bool, length, map, drop}
use Rattle.feature_model.specs.Reading.{truths, at_start, read}
use Rattle.feature_model.specs.View.{token_view}
use Rattle.feature_model.specs.ReaderView.{reader_view}
use Rattle.feature_model.specs.Bounds.{ReaderBelow}
use Rattle.feature_model.proofs.reader.formula_of.Given as goal

abbrev pub invariant-loop-token : goal.invariant-loop-token
invariant-loop-token l =
    record {
      value : (on : ℕ → Bool)
          → read (truths l.features on) (reader_view on l.reader) (map token_view (drop l.token-index l.tokens))
          ≡ read (truths l.features on) (at_start (truths l.features on)) (map token_view l.tokens);
      below : ReaderBelow (length l.features) l.reader;
    }
