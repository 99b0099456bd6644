use Rattle.std.proofs.Common.{◌∙◌, ap, map}
use Rattle.std.specs.String.{string_bytes}
use Rattle.command_promises.proofs.Items.{three_items}
use Rattle.command_tokens.proofs.words.tokens_words.Goals as goal

pub returns-in-len3 : goal.returns-in-len3
returns-in-len3 c =
    let all = three_items c.args.words.now c.project-item.result c.unit-item.result c.names-item.result c.in-len3.len_at_least c.in-len3.len_below c.project-item.is c.unit-item.is c.names-item.is in
    let a = c.as_str.ensures.value in
    let b = c.as_str-in-len3.ensures.value in
    let d = c.as_str-in-len3-2.ensures.value in
    ap (map string_bytes) all ∙ cc
