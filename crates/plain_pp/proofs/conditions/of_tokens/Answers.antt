use Rattle.std.proofs.Common.{map, subst, Option}
use Rattle.std.specs.Prelude.{ℤ}
use Rattle.std.specs.Option.{option_map}
use Rattle.c_text.specs.Token.{plain_token}
use Rattle.c_text.specs.Preprocessing.{by_value}
use Rattle.plain_pp.specs.Values.{number_in}
use Rattle.unit_files.specs.Refusals.{plain_refusal}
use Rattle.plain_pp.specs.Results.{Decides}
use Rattle.plain_pp.proofs.ConditionLemmas.{value-is, number-is}
use Rattle.plain_pp.proofs.conditions.of_tokens.Goals as goal

pub returns : goal.returns
returns c =
    λ value_of are.
    subst (λ (v : Option ℤ). Decides c.by_value.result (by_value (plain_token c.args.hash.now) (option_map plain_refusal c.args.found) v)) (value-is value_of are (map plain_token c.args.tokens.now) (number_in c.in_ok-value.value) (number-is (map plain_token c.args.tokens.now) c.in_ok-value.value c.in_ok-value.ensures.number)) c.by_value.ensures
