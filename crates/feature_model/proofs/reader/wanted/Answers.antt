use Rattle.std.proofs.Common.{ℕ, Bool, List, Some, ap, ◌∙◌, sym}
use Rattle.feature_model.specs.Reading.{truths, placed}
use Rattle.feature_model.specs.View.{token_view}
use Rattle.feature_model.specs.ReaderView.{wanting_view, outer_view}
use Rattle.feature_model.specs.Reading.{wanted}
use Rattle.feature_model.specs.Trees.{on_feature, feature_number}
use Rattle.feature_model.proofs.reader.wanted.Goals as goal

pub returns-in_ok-reader-in-Name-clause-value : goal.returns-in_ok-reader-in-Name-clause-value
returns-in_ok-reader-in-Name-clause-value c = λ on.
    let T = truths c.args.features.now on in
    let w = wanting_view on c.args.waits in
    let o = outer_view on c.args.outer in
    ap (λ r. Some r) (c.in_ok-reader-in-Name.ensures.value c.args.features.now on)
    ∙ ap (λ (x : Bool). Some (placed T w o x)) (c.named.ensures.value on)
    ∙ ap (λ (l : List ℕ). Some (placed T w o (on_feature on (feature_number c.args.features.now l)))) c.deref.ensures.value
    ∙ ap (λ t. wanted T w o (token_view t)) (sym c.in-Name.is)

pub returns-in_ok-reader-in-Sign-clause-value : goal.returns-in_ok-reader-in-Sign-clause-value
returns-in_ok-reader-in-Sign-clause-value c = λ on.
    c.in_ok-reader-in-Sign.ensures.value c.args.features.now on
    ∙ ap (λ t. wanted (truths c.args.features.now on) (wanting_view on c.args.waits) (outer_view on c.args.outer) (token_view t))
    (sym c.in-Sign.is)
