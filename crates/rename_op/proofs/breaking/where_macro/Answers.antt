use Rattle.std.proofs.Common.{List, Bool, IsTrue, sym, subst}
use Rattle.cond_formula.specs.Features.{has}
use Rattle.cond_formula.specs.Conditions.{Condition, condition_of, value}
use Rattle.command_projects.specs.Least.{IsAdmitted}
use Rattle.rename_op.specs.Asked.{project_of}
use Rattle.rename_op.proofs.Told.{macro-told}
use Rattle.rename_op.proofs.breaking.where_macro.Goals as goal

pub returns-clause-tells : goal.returns-clause-tells
returns-clause-tells g c = λ place is before.
    let asked = c.args.asked.now in
    let admits : (n : List Bool) → IsAdmitted (project_of asked) n → IsTrue (value (has n) (g.O.Oracle.admits c.args.oracle.now))
    = λ n admitted. subst (λ (m : Condition). IsTrue (value (has n) m)) (sym c.requires.model) admitted.admitted in
    macro-told asked place is c.lists_are_read_as_classes.ensures (condition_of c.in_ok-f.f) (condition_of c.in_ok-old.old) (condition_of c.in_ok-new.new) c.in_ok-f.ensures
    (λ n admitted. c.in_ok-old.ensures.read n (admits n admitted))
    (λ n admitted. c.in_ok-new.ensures.read n (subst (λ (m : Condition). IsTrue (value (has n) m)) (sym c.in_ok-old.ensures.kept) (admits n admitted)))
