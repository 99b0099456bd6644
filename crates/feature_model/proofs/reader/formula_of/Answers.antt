use Rattle.std.proofs.Common.{Bool, length, map, reverse, ap, ◌∙◌, sym}
use Rattle.std.specs.Prelude.{option_map}
use Rattle.std.proofs.lemmas.List.Elements.{All-nil}
use Rattle.feature_model.specs.Reading.{Sides, no_sides, truths, at_sides, read}
use Rattle.feature_model.specs.View.{token_view}
use Rattle.feature_model.specs.ReaderView.{wanting_view, outer_view, reader_view}
use Rattle.feature_model.specs.Bounds.{WantingBelow}
use Rattle.feature_model.proofs.ReaderLemmas.{read_next}
use Rattle.feature_model.proofs.reader.formula_of.Goals as goal

pub loop-token-init : goal.loop-token-init
loop-token-init c =
    let count = length c.args.features.now in
    record {
      value = λ on.
          let T = truths c.args.features.now on in
          ap (λ r. read T r (map token_view c.args.tokens.now))
          (c.at_operand-reader.ensures.value c.args.features.now on
          ∙ ap (λ (s : Sides Bool). at_sides T s (outer_view on c.new.result)) (c.no_sides.ensures.empty on)
          ∙ ap (λ l. at_sides T no_sides (reverse (map (wanting_view on) l))) c.new.ensures.items);
      below = c.at_operand-reader.ensures.below count (c.no_sides.ensures.below count)
          (rw c.new.ensures.items (All-nil (WantingBelow count)));
    }

pub loop-token-preserved : goal.loop-token-preserved
loop-token-preserved c =
    let so_far = c.loop-token.invariant in
    record {
      value = λ on.
          let T = truths c.args.features.now on in
          read_next T (reader_view on c.loop-token.reader) (reader_view on c.in-Some.next) token_view c.args.tokens.now
          c.loop-token.token-index c.token-item.result c.loop-token-test.true c.token-item.is
          (ap (option_map (reader_view on)) (sym c.in-Some.is) ∙ c.in_ok-taken.ensures.value on)
          ∙ so_far.value on;
      below = rw c.in-Some.is at (c.in_ok-taken.ensures.below so_far.below.place so_far.below.outer);
    }
