use Rattle.std.proofs.Common.{Bool, Some, None, ap, ◌∙◌, sym}
use Rattle.std.specs.Prelude.{if◌then◌else◌}
use Rattle.feature_model.specs.Reading.{truths, whole}
use Rattle.feature_model.specs.ReaderView.{value_in, sides_view}
use Rattle.feature_model.proofs.reader.outermost.Goals as goal

pub returns-then-is_outermost-clause-value : goal.returns-then-is_outermost-clause-value
returns-then-is_outermost-clause-value c = λ features on.
    let w = whole (truths features on) (sides_view on c.args.sides) (value_in on c.args.last) in
    ap (λ (x : Bool). Some x) (c.in_ok-formula.ensures.value features on)
    ∙ ap (λ (b : Bool). if b then Some w else None) (sym c.if-is_outermost.true)
