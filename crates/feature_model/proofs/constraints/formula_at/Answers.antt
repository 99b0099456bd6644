use Rattle.std.proofs.Common.{◌≡◌, map, ap, ◌∙◌, sym, refl}
use Rattle.std.specs.Prelude.{option_map}
use Rattle.std.proofs.lemmas.List.Folds.{list_all-map}
use Rattle.std.proofs.lemmas.Result.{err_from_is_err_and}
use Rattle.cond_formula.specs.Conditions.{condition_of}
use Rattle.feature_model.specs.View.{token_view}
use Rattle.feature_model.specs.ReaderView.{value_in}
use Rattle.feature_model.specs.Trees.{names_feature, is_known}
use Rattle.feature_model.proofs.Readings.{no_tree, found, known_of}
use Rattle.feature_model.proofs.Refusals.{if_err, if_ok, why_unknown}
use Rattle.feature_model.proofs.constraints.formula_at.Goals as goal

pub returns-in-None : goal.returns-in-None
returns-in-None c = (
  refl,
  no_tree c.args.features.now (map token_view c.args.tokens.now)
      (λ on. ap (option_map (value_in on)) (sym c.in-None.is) ∙ c.in_ok-read.ensures.value on),
)

pub returns-in_err-formula-in-Some : goal.returns-in_err-formula-in-Some
returns-in_err-formula-in-Some c =
    let ks = map token_view c.args.tokens.now in
    let fs = c.args.features.now in
    let f = found fs ks (condition_of c.in-Some.formula) (λ on. ap (option_map (value_in on)) (sym c.in-Some.is) ∙ c.in_ok-read.ensures.value on) in
    let k : c.name_features.result ≡ is_known fs f.tree =
    c.name_features.ensures ∙ sym (list_all-map (names_feature fs) token_view c.args.tokens.now) ∙ known_of fs ks f.tree f.spelled
    in
    let e = if_err fs c.name_features.result c.in-Some.formula c.args.index c.in_err-formula-in-Some.field-0.0 c.in_err-formula-in-Some.ensures in
    let p = err_from_is_err_and c.from_residual-in_err-formula-in-Some.result c.from_residual-in_err-formula-in-Some.ensures.1 in
    rw (p.1, p.2) (why_unknown fs ks c.args.index c.in_err-formula-in-Some.field-0.0 f.tree f.spelled (sym k ∙ e.0) e.1)

pub returns-in_ok-formula-in-Some : goal.returns-in_ok-formula-in-Some
returns-in_ok-formula-in-Some c =
    let ks = map token_view c.args.tokens.now in
    let fs = c.args.features.now in
    let f = found fs ks (condition_of c.in-Some.formula) (λ on. ap (option_map (value_in on)) (sym c.in-Some.is) ∙ c.in_ok-read.ensures.value on) in
    let k : c.name_features.result ≡ is_known fs f.tree =
    c.name_features.ensures ∙ sym (list_all-map (names_feature fs) token_view c.args.tokens.now) ∙ known_of fs ks f.tree f.spelled
    in
    let e = if_ok fs c.name_features.result c.in-Some.formula c.in_ok-formula-in-Some.formula c.args.index c.in_ok-formula-in-Some.ensures in
    record {
      tree = f.tree;
      spelled = f.spelled;
      known = sym k ∙ e.0;
      holds = λ on. ap (value_in on) e.1 ∙ f.holds on;
      below = rw e.1 (rw c.in-Some.is at c.in_ok-read.ensures.below);
    }
