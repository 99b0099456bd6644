use Rattle.std.proofs.Common.{List, ℕ, map, Bor}
use Rattle.c_types.specs.Tags.{plain_tags}
use Rattle.plain_link.proofs.FaultLaws.{finds_incompatible}
use Rattle.plain_link.proofs.declarations.incompatible_names.Goals as goal

pub returns : goal.returns
returns c =
    finds_incompatible c.args.units.now c.args.structs.now (plain_tags c.in_ok-tags.tags)
    (map (λ (name : Bor (List ℕ)). name.now) c.in_ok-names.names.items) c.in_ok-tags.ensures c.in_ok-names.ensures
