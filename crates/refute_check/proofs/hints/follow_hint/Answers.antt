use Rattle.std.proofs.Common.{length, ◌-◌}
use Rattle.refute_check.proofs.StoreLaws.{clause_over}
use Rattle.refute_check.proofs.hints.follow_hint.Goals as goal

pub follow-requires-clause-numbered : goal.follow-requires-clause-numbered
follow-requires-clause-numbered c =
    clause_over (length c.args.marks.now - 1) c.args.literals.now c.args.clauses.now c.args.hint c.in-Some.clause.now c.requires.numbered c.in-Some.ensures
