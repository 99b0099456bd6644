use Rattle.std.proofs.Common.{◌∙◌}
use Rattle.type_tables.specs.Seen.{seen_tables}
use Rattle.link_faults.specs.SeenUnits.{name_seen}
use Rattle.link_faults.proofs.Entries.{internal_is}
use Rattle.link_faults.proofs.names.where_internal.Goals as goal

pub returns : goal.returns
returns c = λ on tables.
    c.in_ok-f.ensures on ∙ internal_is (seen_tables on tables).signatures (name_seen on c.args.left.now.names c.args.name.now)
