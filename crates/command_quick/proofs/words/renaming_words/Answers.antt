use Rattle.std.proofs.Common.{◌∙◌, ap, map}
use Rattle.std.specs.String.{string_bytes}
use Rattle.command_promises.proofs.Items.{four_items}
use Rattle.command_quick.proofs.words.renaming_words.Goals as goal

pub returns-in-len4 : goal.returns-in-len4
returns-in-len4 c =
    let all = four_items c.args.words.now c.file-item.result c.old-item.result c.new-item.result c.out-item.result c.in-len4.len_at_least c.in-len4.len_below c.file-item.is c.old-item.is c.new-item.is c.out-item.is in
    let a = c.as_str.ensures.value in
    let b = c.as_str-in-len4.ensures.value in
    let d = c.as_str-in-len4-2.ensures.value in
    let e = c.as_str-in-len4-3.ensures.value in
    ap (map string_bytes) all ∙ cc
