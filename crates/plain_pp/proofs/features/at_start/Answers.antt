use Rattle.std.proofs.Common.{◌∙◌, ap, arith, List, ℕ}
use Rattle.std.specs.Prelude.{if◌then◌else◌}
use Rattle.std.specs.String.{string_bytes}
use Rattle.cond_formula.specs.Features.{has}
use Rattle.plain_pp.specs.Readings.{plain_reading}
use Rattle.plain_pp.specs.Features.{with_feature}
use Rattle.plain_pp.proofs.FeatureLemmas.{feature-next, feature-end}
use Rattle.plain_pp.proofs.features.at_start.Goals as goal

pub loop-number-preserved : goal.loop-number-preserved
loop-number-preserved c =
    let old = plain_reading c.loop-number.reading in
    let number = c.loop-number.number in
    feature-next string_bytes (has c.args.c) number c.args.features.now c.index-features-number.result old (plain_reading c.take_feature.new.reading) c.loop-number-test.true c.index-features-number.is (c.in_ok-take_feature.ensures ∙ ap (λ (name : List ℕ). if has c.args.c number then with_feature name old else old) c.as_bytes.ensures.value)
    ∙ c.loop-number.invariant

pub returns : goal.returns
returns c =
    feature-end string_bytes (has c.args.c) c.loop-number.number c.args.features.now (plain_reading c.loop-number.reading) (omega arith) ∙ c.loop-number.invariant
