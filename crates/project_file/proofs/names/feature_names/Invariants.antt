use Rattle.std.proofs.Common.{◌≡◌, take, map, string_bytes}
use Rattle.project_file.proofs.NameLemmas.{text_of}
use Rattle.project_file.proofs.names.feature_names.Given as goal

abbrev pub invariant-loop-feature : goal.invariant-loop-feature
invariant-loop-feature l = map text_of l.names.items ≡ map string_bytes (take l.feature-index l.feature-items)
