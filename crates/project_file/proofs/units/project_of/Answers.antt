use Rattle.std.proofs.Common.{◌≡◌, length, map, Some, string_bytes, subst, arith}
use Rattle.std.proofs.lemmas.Result.{err_from_is_err_and}
use Rattle.feature_model.specs.ModelView.{admitted}
use Rattle.project_file.specs.Contents.{texts_of}
use Rattle.project_file.specs.Texts.{IsModelOf}
use Rattle.project_file.specs.View.{Why, contents_view}
use Rattle.project_file.specs.Checks.{IsFaultOfTexts, IsFaultOfUnits}
use Rattle.project_file.proofs.Whys.{Why-weaker}
use Rattle.project_file.proofs.TextLemmas.{constraints_first, units_next, length-map}
use Rattle.project_file.proofs.units.project_of.Goals as goal

pub returns-in_err-model : goal.returns-in_err-model
returns-in_err-model c =
    let contents = contents_view c.args.contents in
    let error = c.in_err-model.field-0.0 in
    let why : Why (IsFaultOfTexts contents.features (map Some contents.constraints)) ⊥ error =
    rw (c.deref.ensures.value, c.deref-2.ensures.value) at c.in_err-model.ensures
    in
    let p = err_from_is_err_and c.from_residual-in_err-model.result c.from_residual-in_err-model.ensures.1 in
    rw (p.1, p.2)
    (Why-weaker (IsFaultOfTexts contents.features (map Some contents.constraints)) (IsFaultOfTexts contents.features (texts_of contents)) ⊥ ⊥ error (constraints_first contents) (λ bad. bad) why)

pub returns-in_err-units : goal.returns-in_err-units
returns-in_err-units c =
    let contents = contents_view c.args.contents in
    let error = c.in_err-units.field-0.0 in
    let model : IsModelOf contents.features contents.constraints (admitted c.in_ok-model.model) =
    rw (c.deref.ensures.value, c.deref-2.ensures.value) at c.in_ok-model.ensures
    in
    let before : c.len-before.result ≡ length contents.constraints =
    omega (arith, c.len-before.ensures, c.args.contents.constraints.ok.0, length-map string_bytes c.args.contents.constraints.items)
    in
    let told : Why (IsFaultOfUnits contents.features contents.units c.len-before.result) ⊥ error =
    rw (c.deref-3.ensures.value, c.deref-4.ensures.value) at c.in_err-units.ensures
    in
    let why : Why (IsFaultOfUnits contents.features contents.units (length contents.constraints)) ⊥ error =
    subst (λ n. Why (IsFaultOfUnits contents.features contents.units n) ⊥ error) before told
    in
    let p = err_from_is_err_and c.from_residual-in_err-units.result c.from_residual-in_err-units.ensures.1 in
    rw (p.1, p.2)
    (Why-weaker (IsFaultOfUnits contents.features contents.units (length contents.constraints)) (IsFaultOfTexts contents.features (texts_of contents)) ⊥ ⊥ error (units_next contents (admitted c.in_ok-model.model) model) (λ bad. bad) why)
