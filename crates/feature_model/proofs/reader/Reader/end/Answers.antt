use Rattle.std.proofs.Common.{◌≡◌, ℕ, ap, ◌∙◌, sym, length, vec_len, ◌==◌, arith}
use Rattle.feature_model.specs.Reading.{truths, finished}
use Rattle.feature_model.specs.ReaderView.{value_in, sides_view, wanting_view, outer_view, place_view}
use Rattle.feature_model.proofs.ReaderLemmas.{finished_if}
use Rattle.feature_model.proofs.reader.Reader.end.Goals as goal

pub returns-clause-value : goal.returns-clause-value
returns-clause-value c = λ features on.
    let T = truths features on in
    let outer = c.args.self.outer in
    let same : vec_len outer ≡ length outer.items = omega (arith, outer.ok.0) in
    c.in_ok-formula-in-Has.ensures.value features on
    ∙ finished_if T (sides_view on c.in-Has.sides) (value_in on c.in-Has.last) (wanting_view on) outer.items _ (c.is_empty.ensures ∙ ap (λ (n : ℕ). n == 0) same)
    ∙ ap (λ p. finished T (place_view on p) (outer_view on c.args.self.outer)) (sym c.in-Has.is)
