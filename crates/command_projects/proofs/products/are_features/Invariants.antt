use Rattle.std.proofs.Common.{◌≡◌, map, drop}
use Rattle.std.specs.String.{string_bytes}
use Rattle.command_projects.specs.Products.{are_features}
use Rattle.command_projects.proofs.products.are_features.Given as goal

abbrev pub invariant-loop-name : goal.invariant-loop-name
invariant-loop-name l =
    are_features (map string_bytes l.features) (map (λ n. n.items) (drop l.name-index l.names))
    ≡ are_features (map string_bytes l.features) (map (λ n. n.items) l.names)
