use Rattle.std.proofs.Common.{ap, ◌∙◌, sym}
use Rattle.cond_formula.specs.Features.{has}
use Rattle.cond_formula.specs.Conditions.{condition_of, value}
use Rattle.cond_formula.specs.ConditionLaws.{condition_of-False}
use Rattle.type_tables.specs.Forms.{file_name_form}
use Rattle.name_declarations.proofs.Conflicting.{not_here}
use Rattle.name_declarations.proofs.conflicts.where_one_conflicts.Goals as goal

pub returns-then-not-may_hold-clause-exact : goal.returns-then-not-may_hold-clause-exact
returns-then-not-may_hold-clause-exact g c = λ n admitted.
    ap (value (has n)) condition_of-False
    ∙ not_here (value (has n) (condition_of c.args.left.now)) (value (has n) (condition_of c.args.meaning.now.when)) (g.C.Conflict.conflicts c.args.conflict.now n (file_name_form c.args.meaning.now.what))
    (sym (c.in_ok-here.ensures (has n)) ∙ c.may_hold.ensures.no c.if-not-may_hold.true n admitted)
