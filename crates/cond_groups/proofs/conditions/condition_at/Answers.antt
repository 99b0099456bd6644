use Rattle.std.proofs.Common.{◌<◌, List, map, length, ap, ◌∙◌, arith}
use Rattle.std.specs.Prelude.{Some}
use Rattle.std.proofs.lemmas.List.{length-map}
use Rattle.cond_formula.specs.Features.{has}
use Rattle.cond_formula.specs.Conditions.{Condition, value}
use Rattle.cond_formula.specs.ConditionLaws.{condition_of-False}
use Rattle.c_text.specs.declared.token.Token.{Token}
use Rattle.c_text.specs.Token.{plain_token}
use Rattle.c_text.specs.Preprocessing as spec
use Rattle.pp_lines.specs.PlainDirectives.{plain_directive}
use Rattle.macro_table.specs.Features.{macros_at}
use Rattle.cond_groups.specs.Truths.{truth_at, came_out}
use Rattle.cond_groups.proofs.ConditionLemmas.{line-is, line-none}
use Rattle.cond_groups.proofs.conditions.condition_at.Goals as goal

pub returns-in-empty-clause-truth : goal.returns-in-empty-clause-truth
returns-in-empty-clause-truth g c =
    λ k adm within value_of are.
    let items = c.args.line.now.tokens.items in
    let same = ap (λ (xs : List Token). length xs) c.as_slice.ensures.value in
    let none : length (map plain_token items) < 1 = omega (arith, c.in-empty.len_below, same, length-map items plain_token) in
    c.unless.ensures (has k)
    ∙ ap (λ (f : Condition). Some (value (has k) f)) condition_of-False
    ∙ line-none value_of (macros_at (has k) c.args.macros.now) (map plain_token items) none

pub returns-in_ok-line_condition-in_default-clause-truth : goal.returns-in_ok-line_condition-in_default-clause-truth
returns-in_ok-line_condition-in_default-clause-truth g c =
    λ k adm within value_of are.
    let items = c.args.line.now.tokens.items in
    let table = macros_at (has k) c.args.macros.now in
    let d = plain_directive c.in_ok-says-in_default.says in
    let same = ap (λ (xs : List Token). length xs) c.as_slice.ensures.value in
    let some : 0 < length (map plain_token items) = omega (arith, c.in_default.len_at_least, same, length-map items plain_token) in
    line-is value_of table (map plain_token items) d (truth_at (has k) c.in_ok-line_condition-in_default.field-0) some c.in_ok-says-in_default.ensures
    (λ hash. c.in_ok-line_condition-in_default.ensures.truth k adm within value_of are hash ∙ ap (λ (xs : List Token). came_out (spec.line_condition value_of table hash (map plain_token xs) d)) c.as_slice.ensures.value)
