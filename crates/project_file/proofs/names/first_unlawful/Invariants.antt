use Rattle.std.proofs.Common.{take, map, string_bytes}
use Rattle.project_file.specs.Projects.{AreFeatureNames}
use Rattle.project_file.proofs.names.first_unlawful.Given as goal

abbrev pub invariant-loop-feature : goal.invariant-loop-feature
invariant-loop-feature l = AreFeatureNames (map string_bytes (take l.feature-index l.features))
