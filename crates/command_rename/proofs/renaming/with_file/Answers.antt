use Rattle.std.proofs.Common.{[], ◌∷◌, map, ap, ◌∙◌}
use Rattle.std.proofs.lemmas.List.{map-append}
use Rattle.text_edits.specs.Files.{plain_file}
use Rattle.command_rename.proofs.renaming.with_file.Goals as goal

pub returns : goal.returns
returns c = ap (map plain_file) c.in_ok-push.ensures.items ∙ map-append plain_file c.args.files.list.items (c.args.file ∷ [])
