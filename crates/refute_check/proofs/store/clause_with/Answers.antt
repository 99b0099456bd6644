use Rattle.refute_check.proofs.StoreLaws.{clause_at-stored}
use Rattle.refute_check.proofs.store.clause_with.Goals as goal

pub returns : goal.returns
returns c =
    let found = c.in_ok-stored.ensures.lookup in
    let index = c.in_ok-index.ensures in
    clause_at-stored c.args.literals.now c.args.clauses.now c.args.number c.in_ok-index.index c.in_ok-stored.field-0.now index.0 index.1 found.3.0 found.1
