-- The names of units whose tokens have lost their sites.
use Rattle.std.proofs.Common.{[]}
use Rattle.moved_names.proofs.Names.{names-moved}
use Rattle.changed_forests.specs.Numbered.{unsited}
use Rattle.sited_names.specs.Laws.{SitesDontName}

pub sites_dont_name_lem : SitesDontName
sites_dont_name_lem trees = names-moved unsited [] trees
