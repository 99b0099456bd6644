use Rattle.std.proofs.Common.{◌≡◌, map, drop}
use Rattle.std.specs.List.{list_any}
use Rattle.std.specs.Str.{bytes_eq}
use Rattle.std.specs.String.{string_bytes}
use Rattle.unit_files.proofs.surroundings.is_feature.Given as goal

abbrev pub invariant-loop-feature : goal.invariant-loop-feature
invariant-loop-feature l =
    list_any (bytes_eq l.name) (map string_bytes (drop l.feature-index l.features)) ≡ list_any (bytes_eq l.name) (map string_bytes l.features)
