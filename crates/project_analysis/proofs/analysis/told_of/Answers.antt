use Rattle.std.proofs.Common.{IsTrue, ap, subst, ◌∙◌}
use Rattle.cond_formula.specs.Features.{has}
use Rattle.cond_formula.specs.Conditions.{value}
use Rattle.core_meaning.specs.Checking.{Checked}
use Rattle.core_meaning.specs.Linking.{Units}
use Rattle.cond_scopes.specs.Units.{present_trees}
use Rattle.cond_types.specs.Typed.{IsTypedAs}
use Rattle.project_analysis.proofs.analysis.told_of.Goals as goal

pub returns-clause-told : goal.returns-clause-told
returns-clause-told g c = λ n linked js admitted written judged numbers.
    let bound_there : IsTrue (value (has n) (g.O.Oracle.admits c.scopes.new.oracle)) = ap (value (has n)) c.in_ok-b.ensures.kept ∙ admitted in
    let typed_there : IsTrue (value (has n) (g.O.Oracle.admits c.types.new.oracle)) = ap (value (has n)) c.in_ok-t.ensures.kept ∙ bound_there in
    let told_there : IsTrue (value (has n) (g.O.Oracle.admits c.where_typed_not_elaborated.new.oracle)) = ap (value (has n)) c.in_ok-broken.ensures.kept ∙ typed_there in
    let scoped = c.in_ok-b.ensures.scoped n admitted in
    let typed = subst (λ (j : Checked Units). IsTypedAs (has n) j c.in_ok-t.t) judged (c.in_ok-t.ensures.judged n bound_there scoped written) in
    c.in_ok-told.ensures.told n linked js told_there scoped written judged numbers (c.in_ok-t.ensures.present n bound_there) typed.1

pub returns-clause-broken : goal.returns-clause-broken
returns-clause-broken g c = λ n admitted written.
    let bound_there : IsTrue (value (has n) (g.O.Oracle.admits c.scopes.new.oracle)) = ap (value (has n)) c.in_ok-b.ensures.kept ∙ admitted in
    let typed_there : IsTrue (value (has n) (g.O.Oracle.admits c.types.new.oracle)) = ap (value (has n)) c.in_ok-t.ensures.kept ∙ bound_there in
    c.in_ok-broken.ensures.exact n (present_trees (has n) c.args.units.now c.args.forests.now) typed_there
    (c.in_ok-t.ensures.judged n bound_there (c.in_ok-b.ensures.scoped n admitted) written)
