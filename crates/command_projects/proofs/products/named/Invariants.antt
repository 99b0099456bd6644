use Rattle.std.proofs.Common.{◌≡◌, map, take}
use Rattle.std.specs.String.{string_bytes}
use Rattle.command_projects.specs.Products.{is_named}
use Rattle.command_projects.proofs.products.named.Given as goal

abbrev pub invariant-loop-feature : goal.invariant-loop-feature
invariant-loop-feature l = l.on.items ≡ map (is_named (map (λ n. n.items) l.names)) (map string_bytes (take l.feature-index l.features))
