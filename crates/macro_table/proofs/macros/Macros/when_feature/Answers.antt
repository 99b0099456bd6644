use Rattle.std.proofs.Common.{List, ℕ, ◌||◌, ◌&&◌, refl, ap, ◌∙◌}
use Rattle.std.specs.String.{string_bytes}
use Rattle.std.specs.Str.{bytes_eq}
use Rattle.cond_formula.specs.Features.{has}
use Rattle.cond_formula.specs.Conditions.{condition_of, value}
use Rattle.cond_formula.specs.ConditionLaws.{condition_of-False}
use Rattle.macro_table.specs.Features.{is_on_feature}
use Rattle.macro_table.proofs.FeatureLemmas.{feature_step}
use Rattle.macro_table.proofs.macros.Macros.when_feature.Goals as goal

pub loop-number-init : goal.loop-number-init
loop-number-init c = λ n. rw condition_of-False refl

pub loop-number-preserved : goal.loop-number-preserved
loop-number-preserved c = λ n.
    feature_step string_bytes (has n) c.args.name.now c.args.self.now.features.now c.feature-item.result c.loop-number.number
    (value (has n) (condition_of c.loop-number.on)) (value (has n) (condition_of c.in_ok-on.on)) (is_on_feature (has n) c.args.self.now c.args.name.now)
    c.loop-number-test.true c.feature-item.is
    (c.in_ok-on.ensures n ∙ ap (λ (t : List ℕ). value (has n) (condition_of c.loop-number.on) || (bytes_eq c.args.name.now t && has n c.loop-number.number)) c.as_bytes.ensures.value)
    (c.loop-number.invariant n)
