use Rattle.std.proofs.Common.{Bool, Some, ap, ◌∙◌, sym}
use Rattle.feature_model.specs.Reading.{Sides, no_sides, wanting, truths}
use Rattle.feature_model.specs.Tokens.{Mark}
use Rattle.feature_model.specs.ReaderView.{wanting_view, outer_view}
use Rattle.feature_model.specs.Reading.{wanted}
use Rattle.feature_model.proofs.reader.wanted_sign.Goals as goal

pub returns-in_ok-outer-in-Opens-clause-value : goal.returns-in_ok-outer-in-Opens-clause-value
returns-in_ok-outer-in-Opens-clause-value c = λ features on.
    let T = truths features on in
    let w = wanting_view on c.args.waits in
    let o = outer_view on c.args.outer in
    ap (λ r. Some r) (c.at_operand.ensures.value features on)
    ∙ ap (λ (s : Sides Bool). wanting T s (outer_view on c.in_ok-outer-in-Opens.outer)) (c.no_sides.ensures.empty on)
    ∙ ap (wanting T no_sides) (c.in_ok-outer-in-Opens.ensures.value on)
    ∙ ap (λ s. wanted T w o (Mark s)) (sym c.in-Opens.is)
