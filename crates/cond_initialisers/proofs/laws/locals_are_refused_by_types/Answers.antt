use Rattle.type_tables.specs.Tables.{known_in}
use Rattle.type_tables.proofs.Known.{known_followed}
use Rattle.cond_initialisers.proofs.ByTypes.{refused_by_types}
use Rattle.cond_initialisers.proofs.laws.locals_are_refused_by_types.Goals as goal

pub returns : goal.returns
returns c = λ t scope f.
    refused_by_types f.by scope (known_in t) (c.expressions_have_types.ensures f.by f.apart scope (known_in t) (known_followed t scope f)) (c.types_are_kept.ensures f.by f.apart scope)
