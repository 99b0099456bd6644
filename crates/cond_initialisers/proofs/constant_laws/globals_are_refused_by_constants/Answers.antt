use Rattle.type_tables.specs.Tables.{known_in}
use Rattle.type_tables.proofs.Known.{known_followed}
use Rattle.cond_initialisers.proofs.Globals.{refused_by_constants}
use Rattle.cond_initialisers.proofs.constant_laws.globals_are_refused_by_constants.Goals as goal

pub returns : goal.returns
returns c = λ t scope f outside globals.
    refused_by_constants f.by scope (known_in t) outside (c.expressions_have_types.ensures f.by f.apart scope (known_in t) (known_followed t scope f))
    (c.locals_are_refused_by_types.ensures t scope f) globals
