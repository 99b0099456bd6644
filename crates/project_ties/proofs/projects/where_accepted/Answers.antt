use Rattle.std.proofs.Common.{◌≡◌, length, rules, sym, ap, subst, ◌∙◌}
use Rattle.std.specs.Prelude.{not}
use Rattle.text_edits.specs.Files.{plain_files}
use Rattle.cond_formula.specs.Features.{has}
use Rattle.cond_formula.specs.Conditions.{condition_of, value}
use Rattle.project_file.specs.View.{project_view}
use Rattle.project_check.specs.Broken.{TellsProgram}
use Rattle.project_ties.specs.Tied.{IsOwn}
use Rattle.project_ties.proofs.Pushed.{still_own, not_not}
use Rattle.project_ties.proofs.projects.where_accepted.Goals as goal

pub returns-clause-exact : goal.returns-clause-exact
returns-clause-exact g c = λ c' own.
    let many : c.len.result ≡ length c.args.project.now.features.items = search rules in
    let there : IsOwn c.len.result (g.O.Oracle.admits c.without_refuted.new.oracle) c' =
    subst (λ n. IsOwn n (g.O.Oracle.admits c.without_refuted.new.oracle) c') (sym many) (still_own c.in_ok-broken.ensures.kept own) in
    let anywhere = value (has c') (condition_of c.in_ok-anywhere.anywhere) in
    let broken = value (has c') (condition_of c.in_ok-broken.broken) in
    let live : broken ≡ anywhere = c.in_ok-broken.ensures.same c' own.admitted in
    let is : not (value (has c') (condition_of c.in_ok-f.f)) ≡ anywhere = ap not (c.in_ok-f.ensures.same c' there ∙ c.in_ok-elsewhere.ensures.holds (has c')) ∙ not_not broken ∙ live in
    subst (λ b. TellsProgram b (project_view c.args.project.now) (plain_files c.args.files.now) (has c')) (sym is)
    (c.in_ok-anywhere.ensures c' (c.requires.parsed c' own.admitted) (c.requires.badly_made c' own.admitted))
