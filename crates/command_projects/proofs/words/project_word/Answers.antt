use Rattle.std.proofs.Common.{◌∙◌, ap, map}
use Rattle.std.specs.String.{string_bytes}
use Rattle.command_promises.proofs.Items.{one_item}
use Rattle.command_projects.proofs.words.project_word.Goals as goal

pub returns-in-len1 : goal.returns-in-len1
returns-in-len1 c =
    let all = one_item c.args.words.now c.project-item.result c.in-len1.len_at_least c.in-len1.len_below c.project-item.is in
    let a = c.as_str.ensures.value in
    ap (map string_bytes) all ∙ cc
