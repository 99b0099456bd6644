use Rattle.std.proofs.Common.{IsTrue, ap, sym, subst, ◌∙◌}
use Rattle.text_edits.specs.Files.{plain_files}
use Rattle.cond_formula.specs.Features.{has}
use Rattle.cond_formula.specs.Conditions.{value}
use Rattle.feature_model.specs.ModelView.{admitted}
use Rattle.project_file.specs.View.{project_view}
use Rattle.project_check.specs.Broken.{TellsProgram}
use Rattle.project_check.proofs.checking.where_products_broken.Goals as goal

pub returns : goal.returns
returns c = λ c' is.
    let there : IsTrue (value (has c') (admitted c.new-oracle.result)) = ap (value (has c')) c.new-oracle.ensures ∙ is.admitted in
    subst (λ b. TellsProgram b (project_view c.args.project.now) (plain_files c.args.files.now) (has c'))
    (sym (c.in_ok-live.ensures.same c' (ap (value (has c')) c.in_ok-anywhere.ensures.kept ∙ there))) (c.in_ok-anywhere.ensures.exact c' there)
