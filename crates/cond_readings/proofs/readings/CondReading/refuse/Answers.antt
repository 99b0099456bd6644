use Rattle.std.proofs.Common.{Bool, ap, ◌∙◌}
use Rattle.std.specs.Prelude.{if◌then◌else◌, ◌||◌, None, Some}
use Rattle.cond_formula.specs.declared.formulas.Formula.{Formula}
use Rattle.cond_formula.specs.Conditions.{condition_of, value}
use Rattle.cond_tokens.specs.Streams.{tokens_at}
use Rattle.cond_readings.specs.Readings.{table_in}
use Rattle.cond_readings.specs.TakenLaws.{unless-more}
use Rattle.cond_readings.proofs.readings.CondReading.refuse.Goals as goal

pub returns : goal.returns
returns c =
    λ on features.
    let old = c.args.self.now in
    let r = Some (record { table = table_in on features old.table; tokens = tokens_at on old.tokens.items }) in
    ap (λ (b : Bool). if b then None else r) (c.in_ok-refused.ensures on)
    ∙ ap (λ (f : Formula). if value on (condition_of f) || value on (condition_of c.args.when) then None else r) c.replace-before.ensures.value
    ∙ unless-more (value on (condition_of old.refused)) (value on (condition_of c.args.when)) r
