use Rattle.refute_check.proofs.StoreLaws.{entries-stored}
use Rattle.std.proofs.Common.{arith}
use Rattle.std.proofs.lemmas.Grind.{common_steps}
use Rattle.refute_check.proofs.store.store.Goals as goal

pub returns-clause-entries : goal.returns-clause-entries
returns-clause-entries c = λ within.
    let stored = entries-stored c.args.literals.now.items c.args.clause.now c.args.clauses.now.items c.args.derived within in
    grind (arith, common_steps)
