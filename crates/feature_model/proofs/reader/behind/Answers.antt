use Rattle.std.proofs.Common.{ap, ◌∙◌, sym}
use Rattle.feature_model.specs.Reading.{truths, reading_behind}
use Rattle.feature_model.specs.View.{token_view}
use Rattle.feature_model.specs.ReaderView.{value_in, sides_view, outer_view}
use Rattle.feature_model.proofs.reader.behind.Goals as goal

pub returns-in_ok-reader-in-Sign-clause-value : goal.returns-in_ok-reader-in-Sign-clause-value
returns-in_ok-reader-in-Sign-clause-value c = λ features on.
    c.in_ok-reader-in-Sign.ensures.value features on
    ∙ ap (λ t. reading_behind (truths features on) (sides_view on c.args.sides) (value_in on c.args.last) (outer_view on c.args.outer) (token_view t))
    (sym c.in-Sign.is)
