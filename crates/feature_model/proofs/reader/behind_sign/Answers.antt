use Rattle.std.proofs.Common.{Bool, ap, ◌∙◌, sym}
use Rattle.feature_model.specs.Reading.{truths, closed, reading_behind}
use Rattle.feature_model.specs.Tokens.{Mark}
use Rattle.feature_model.specs.ReaderView.{value_in, sides_view, outer_view}
use Rattle.feature_model.proofs.reader.behind_sign.Goals as goal

pub returns-in_ok-reader-in-Or-clause-value : goal.returns-in_ok-reader-in-Or-clause-value
returns-in_ok-reader-in-Or-clause-value c = λ features on.
    c.in_ok-reader-in-Or.ensures.value features on
    ∙ ap (λ s. reading_behind (truths features on) (sides_view on c.args.sides) (value_in on c.args.last) (outer_view on c.args.outer) (Mark s))
    (sym c.in-Or.is)

pub returns-in_ok-reader-in-Implies-clause-value : goal.returns-in_ok-reader-in-Implies-clause-value
returns-in_ok-reader-in-Implies-clause-value c = λ features on.
    c.in_ok-reader-in-Implies.ensures.value features on
    ∙ ap (λ s. reading_behind (truths features on) (sides_view on c.args.sides) (value_in on c.args.last) (outer_view on c.args.outer) (Mark s))
    (sym c.in-Implies.is)

pub returns-in_ok-reader-in-Equals-clause-value : goal.returns-in_ok-reader-in-Equals-clause-value
returns-in_ok-reader-in-Equals-clause-value c = λ features on.
    c.in_ok-reader-in-Equals.ensures.value features on
    ∙ ap (λ s. reading_behind (truths features on) (sides_view on c.args.sides) (value_in on c.args.last) (outer_view on c.args.outer) (Mark s))
    (sym c.in-Equals.is)

pub returns-in_ok-reader-in-Closes-clause-value : goal.returns-in_ok-reader-in-Closes-clause-value
returns-in_ok-reader-in-Closes-clause-value c = λ features on.
    c.in_ok-reader-in-Closes.ensures.value features on
    ∙ ap (λ (x : Bool). closed (truths features on) (outer_view on c.args.outer) x) (c.in_ok-operand-in-Closes.ensures.value features on)
    ∙ ap (λ s. reading_behind (truths features on) (sides_view on c.args.sides) (value_in on c.args.last) (outer_view on c.args.outer) (Mark s))
    (sym c.in-Closes.is)
