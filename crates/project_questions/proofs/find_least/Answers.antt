use Rattle.std.proofs.Common.{◌≡◌, Bool, List, length, IsTrue, rules, subst, sym, arith}
use Rattle.std.specs.Prelude.{string_bytes}
use Rattle.std.proofs.lemmas.List.{length-map}
use Rattle.cond_formula.specs.Features.{has}
use Rattle.cond_formula.specs.Conditions.{condition_of, value, VarsBelow}
use Rattle.cond_formula.specs.ConditionLaws.{VarsBelow-raised}
use Rattle.feature_model.specs.ModelView.{admitted}
use Rattle.project_file.specs.View.{project_view}
use Rattle.command_projects.specs.Least.{IsAdmitted}
use Rattle.project_questions.specs.Questions.{IsTrueIn}
use Rattle.project_questions.proofs.Found.{found-is}
use Rattle.project_questions.proofs.Same.{found-of-same}
use Rattle.project_questions.proofs.find_least.Goals as goal

pub ask-verdict-requires-clause-model_numbered : goal.ask-verdict-requires-clause-model_numbered
ask-verdict-requires-clause-model_numbered c =
    VarsBelow-raised (length c.args.project.now.features.items) 128 c.requires.few (admitted c.args.project.now.model) c.requires.below

pub ask-verdict-requires-clause-numbered : goal.ask-verdict-requires-clause-numbered
ask-verdict-requires-clause-numbered c =
    let many : c.len.result ≡ length c.args.project.now.features.items = search rules in
    VarsBelow-raised (length c.args.project.now.features.items) 128 c.requires.few (condition_of c.in_ok-within.within)
    (subst (λ n. VarsBelow n (condition_of c.in_ok-within.within)) many c.in_ok-within.ensures.below)

pub returns : goal.returns
returns c =
    let many : c.len.result ≡ length c.args.project.now.features.items = search rules in
    let features = length c.args.project.now.features.items in
    let view = project_view c.args.project.now in
    let model = admitted c.args.project.now.model in
    let within = condition_of c.in_ok-within.within in
    let below : VarsBelow features within = subst (λ n. VarsBelow n within) many c.in_ok-within.ensures.below in
    let found = c.in_ok-found.found in
    let count : length view.features ≡ features = length-map c.args.project.now.features.items string_bytes in
    let same : (on : List Bool) → IsAdmitted view on → value (has on) within ≡ value (has on) (condition_of c.args.f.now) =
    λ on is. c.in_ok-within.ensures.same (has on) (λ feature h. is.within feature (omega (arith, h, many, count))) in
    found-of-same view (IsTrueIn within) (IsTrueIn (condition_of c.args.f.now))
    (λ on is. (λ t. subst IsTrue (same on is) t, λ t. subst IsTrue (sym (same on is)) t)) found
    (found-is view within features count c.fewer_features_suffice.ensures c.requires.few c.requires.below below found (c.in_ok-found.ensures model within c.ask-verdict.ensures))
