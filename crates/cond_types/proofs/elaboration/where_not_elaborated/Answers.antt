use Rattle.std.proofs.Common.{IsTrue, ap, ◌∙◌}
use Rattle.cond_formula.specs.Features.{has}
use Rattle.cond_formula.specs.Conditions.{value}
use Rattle.cond_scopes.specs.Units.{present_trees}
use Rattle.cond_types.proofs.elaboration.where_not_elaborated.Goals as goal

pub returns-clause-exact : goal.returns-clause-exact
returns-clause-exact g c = λ c' admitted written.
    let bound_there : IsTrue (value (has c') (g.O.Oracle.admits c.scopes.new.oracle)) = ap (value (has c')) c.in_ok-bindings.ensures.kept ∙ admitted in
    let typed_there : IsTrue (value (has c') (g.O.Oracle.admits c.types.new.oracle)) = ap (value (has c')) c.in_ok-found.ensures.kept ∙ bound_there in
    let trees = present_trees (has c') c.args.units.now c.args.forests.now in
    c.in_ok-f.ensures.exact c' trees typed_there (c.in_ok-found.ensures.judged c' bound_there (c.in_ok-bindings.ensures.scoped c' admitted) written)
