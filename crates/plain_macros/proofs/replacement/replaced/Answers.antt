use Rattle.std.proofs.Common.{◌≡◌, [], map, ap, ◌∙◌}
use Rattle.c_text.specs.Token.{plain_token}
use Rattle.c_text.specs.Macros as spec
use Rattle.plain_macros.specs.PlainItems.{plain_item, item_token}
use Rattle.plain_macros.specs.PlainLevels.{below}
use Rattle.plain_macros.specs.PlainTables.{table_of}
use Rattle.plain_macros.specs.PlainReplacements.{outcome}
use Rattle.plain_macros.proofs.replacement.replaced.Goals as goal

pub returns : goal.returns
returns c =
    let table = table_of c.args.table.now in
    let tokens = map (λ t. plain_token t.now) c.args.tokens.now in
    let items : map plain_item c.as_slice-2.result.now ≡ map spec.fresh tokens = cc (c.as_slice-2.ensures.value, c.in_ok-items.ensures) in
    let names : map (λ name. (item_token name).text) c.as_slice.result.now ≡ [] = ap (map (λ name. (item_token name).text)) (c.as_slice.ensures.value ∙ c.new-active.ensures.items) in
    c.in_ok-made.ensures ∙ ap outcome (c.in_ok-list.ensures
    ∙ ap (λ active. spec.outside table (below table 256) active (map plain_item c.as_slice-2.result.now)) names
    ∙ ap (spec.outside table (below table 256) []) items)
