use Rattle.std.proofs.Common.{map, ap, ◌∙◌}
use Rattle.std.specs.Prelude.{if◌then◌else◌, Some, None}
use Rattle.cond_formula.specs.Features.{has}
use Rattle.cond_formula.specs.Conditions.{Condition, value}
use Rattle.cond_formula.specs.ConditionLaws.{condition_of-True}
use Rattle.c_text.specs.Token.{plain_token}
use Rattle.pp_lines.specs.PlainDirectives.{plain_directive}
use Rattle.macro_table.specs.Features.{macros_at}
use Rattle.cond_groups.specs.Truths.{truth_at}
use Rattle.cond_groups.proofs.ConditionLemmas.{ifdef-is, ifndef-is, else-is}
use Rattle.cond_groups.proofs.conditions.line_condition.Goals as goal

pub returns-in_ok-defined_condition-in-Ifdef-clause-truth :
    goal.returns-in_ok-defined_condition-in-Ifdef-clause-truth
returns-in_ok-defined_condition-in-Ifdef-clause-truth g c =
    λ k adm within value_of are hash.
    let tokens = map plain_token c.args.tokens.now in
    let ignored = map plain_token c.behind.result.now in
    ifdef-is value_of (macros_at (has k) c.args.macros.now) hash (plain_token c.in-Ifdef.name) tokens ignored (plain_directive c.args.says.now) (truth_at (has k) c.in_ok-defined_condition-in-Ifdef.field-0) c.behind.ensures (ap plain_directive c.in-Ifdef.is) (c.in_ok-defined_condition-in-Ifdef.ensures k value_of)

pub returns-in_ok-defined_condition-in-Ifndef-clause-truth :
    goal.returns-in_ok-defined_condition-in-Ifndef-clause-truth
returns-in_ok-defined_condition-in-Ifndef-clause-truth g c =
    λ k adm within value_of are hash.
    let tokens = map plain_token c.args.tokens.now in
    let ignored = map plain_token c.behind-in-Ifndef.result.now in
    ifndef-is value_of (macros_at (has k) c.args.macros.now) hash (plain_token c.in-Ifndef.name) tokens ignored (plain_directive c.args.says.now) (truth_at (has k) c.in_ok-defined_condition-in-Ifndef.field-0) c.behind-in-Ifndef.ensures (ap plain_directive c.in-Ifndef.is) (c.in_ok-defined_condition-in-Ifndef.ensures k value_of)

pub returns-in-Else-clause-truth : goal.returns-in-Else-clause-truth
returns-in-Else-clause-truth g c =
    λ k adm within value_of are hash.
    let tokens = map plain_token c.args.tokens.now in
    let ignored = map plain_token c.behind-in-Else.result.now in
    let bad = c.refuse_ignored-bad.result in
    c.unless.ensures (has k)
    ∙ ap (λ (f : Condition). if bad then None else Some (value (has k) f)) condition_of-True
    ∙ else-is value_of (macros_at (has k) c.args.macros.now) hash tokens ignored (plain_directive c.args.says.now) bad c.refuse_ignored-bad.ensures c.behind-in-Else.ensures (ap plain_directive c.in-Else.is)
