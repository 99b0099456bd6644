use Rattle.std.proofs.Common.{◌≡◌, take}
use Rattle.toml.specs.View.{items_view}
use Rattle.project_file.specs.Documents.{strings}
use Rattle.project_file.specs.View.{strings_view}
use Rattle.project_file.proofs.documents.strings_in.Given as goal

abbrev pub invariant-loop-value : goal.invariant-loop-value
invariant-loop-value l = items_view (take l.value-index l.values) ≡ strings (strings_view l.texts)
