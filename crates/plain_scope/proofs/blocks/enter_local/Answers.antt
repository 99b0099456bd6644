use Rattle.std.proofs.Common.{ap, ◌∙◌}
use Rattle.std.specs.Prelude.{option_map}
use Rattle.plain_scope.proofs.NameLemmas.{mapped_entry}
use Rattle.core_meaning.specs.Entities as spec
use Rattle.core_meaning.specs.Entities.{Table}
use Rattle.plain_scope.specs.declared.entities.Local.{Local}
use Rattle.plain_scope.specs.PlainScope.{entry_of, plain_local}
use Rattle.plain_scope.proofs.blocks.enter_local.Goals as goal

pub returns : goal.returns
returns c =
    let plain : Table Local → Table spec.Local = λ table name. option_map plain_local (table name) in
    ap plain c.in_ok-enter.ensures ∙ mapped_entry plain_local (entry_of c.args.block.now) c.args.name.now c.args.local
