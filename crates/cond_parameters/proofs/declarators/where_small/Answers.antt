use Rattle.std.proofs.Common.{ap, ◌∙◌}
use Rattle.type_tables.specs.Seen.{seen_tables}
use Rattle.type_tables.specs.Tables.{is_small}
use Rattle.type_tables.proofs.ScalarLaws.{small_same}
use Rattle.cond_parameters.proofs.declarators.where_small.Goals as goal

pub returns : goal.returns
returns c = λ on scope follows whole there same.
    c.in_ok-small.ensures on ∙ ap (is_small (seen_tables on c.args.tables.now)) same ∙ small_same (seen_tables on c.args.tables.now) scope follows whole there
