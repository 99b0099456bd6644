use Rattle.std.proofs.Common.{rules, sym}
use Rattle.cond_formula.specs.ConditionLaws.{condition_of-False}
use Rattle.matched_lists.proofs.cells.possible.Goals as goal

pub returns-then-eq-clause-same : goal.returns-then-eq-clause-same
returns-then-eq-clause-same g c = λ n admitted. rw condition_of-False (sym (c.may.ensures.no (search rules) n admitted))
