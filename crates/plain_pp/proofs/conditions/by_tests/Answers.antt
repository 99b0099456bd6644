use Rattle.std.proofs.Common.{List, map, ap, ◌∙◌}
use Rattle.c_text.specs.Token.{plain_token, PlainToken}
use Rattle.c_text.specs.Macros.{replaced}
use Rattle.plain_macros.specs.PlainTables.{table_of}
use Rattle.plain_macros.specs.PlainReplacements.{outcome}
use Rattle.plain_pp.proofs.conditions.by_tests.Goals as goal

pub returns : goal.returns
returns c =
    λ value_of are.
    let table = table_of c.args.table.now in
    c.of_replacement.ensures value_of are (replaced table (map plain_token c.args.tokens.now)) (c.in_ok-replacement.ensures ∙ ap (λ (ts : List PlainToken). outcome (replaced table ts)) (ap (λ xs. map (λ t. plain_token t.now) xs) c.as_slice.ensures.value ∙ c.in_ok-run.ensures))
