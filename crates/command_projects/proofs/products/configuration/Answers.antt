use Rattle.std.proofs.Common.{map, ◌∙◌}
use Rattle.command_projects.proofs.Named.{named_on}
use Rattle.command_projects.proofs.products.configuration.Goals as goal

pub returns : goal.returns
returns c =
    named_on c.args.features.now (map (λ n. n.items) c.args.names.now) c.deref.result.now c.config_of.result c.requires.lawful
    (c.deref.ensures.value ∙ c.in_ok-on.ensures) c.config_of.ensures.on c.config_of.ensures.off
