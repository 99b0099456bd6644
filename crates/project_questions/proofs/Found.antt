-- What is answered of a project's model and a formula is what is found of the configurations that it admits.
use Rattle.std.proofs.Common.{◌≡◌, ℕ, ◌≤◌, Bool, true, false, ◌&&◌, List, length, IsTrue, refl, sym, subst, ◌∙◌, ◌⊎◌, arith}
use Rattle.cond_formula.specs.Features.{has}
use Rattle.cond_formula.specs.Conditions.{Condition, value, VarsBelow}
use Rattle.sat_core.specs.Models.{IsLeastModel, AreSame, IsLess}
use Rattle.sat_core.specs.declared.answers.Proof.{Proof}
use Rattle.verdict_query.specs.Verdicts.{where_admitted, FewerFeaturesLaw}
use Rattle.project_file.specs.Projects.{PlainProject}
use Rattle.command_projects.specs.Least.{Nowhere, IsLeast}
use Rattle.project_questions.specs.Questions.{IsTrueIn, ShowsNone, IsFound}
use Rattle.project_questions.specs.Steps.{IsVerdictFound}
use Rattle.project_questions.specs.declared.Finding.{Finding}
use Rattle.project_questions.specs.declared.Finding.TheVariants.{Least, Never}

second_false : (a b : Bool) → IsTrue a → (a && (b && true)) ≡ false → b ≡ false
second_false true true h e = e
second_false true false h e = refl
second_false false b h e = absurd (let no : ◌≡◌ {A = Bool} false true = h in cc)

first_true : (a b : Bool) → IsTrue (a && (b && true)) → IsTrue a
first_true true b h = refl
first_true false b h = h

second_true : (a b : Bool) → IsTrue (a && (b && true)) → b ≡ true
second_true true true h = refl
second_true true false h = h
second_true false b h = absurd (let no : ◌≡◌ {A = Bool} false true = h in cc)

both_true : (a b : Bool) → IsTrue a → b ≡ true → IsTrue (a && (b && true))
both_true true true h e = refl
both_true true false h e = e
both_true false b h e = h

module _ (project : PlainProject) (f : Condition) (features : ℕ) (count : length project.features ≡ features) where
  is_least : (c : List Bool) → IsLeastModel features (where_admitted project.model f) c → IsLeast project (IsTrueIn f) c
  is_least c is = record {
    admitted = record {
      within = λ feature h. is.within feature (omega (arith, h, count));
      admitted = first_true (value (has c) project.model) (value (has c) f) is.holds;
    };
    holds = second_true (value (has c) project.model) (value (has c) f) is.holds;
    least = λ other admitted holds.
        subst (λ n. AreSame n (has c) (has other) ⊎ IsLess n (has c) (has other)) (sym count)
        (is.least (has other) (both_true (value (has other) project.model) (value (has other) f) admitted.admitted holds));
  }

  -- what is answered of a condition that names none but the project's features is what is found of the configurations
  pub found-is : FewerFeaturesLaw → features ≤ 128 → VarsBelow features project.model → VarsBelow features f → (found : Finding) → IsVerdictFound project.model f found → IsFound project (IsTrueIn f) found
  found-is fewer few model_below below (Least c) least =
      is_least c (fewer features 128 few (where_admitted project.model f) (model_below, (below, tt)) c least)
  found-is fewer few model_below below (Never proof) refutes = record { question = f; asks = λ c admitted. (λ h. h, λ h. h); refutes = refutes }

-- where a proof shows that no configuration is such, none is
pub none-shown : (project : PlainProject) (Holds : List Bool → Type 0) (proof : Proof) → ShowsNone project Holds proof → Nowhere project Holds
none-shown project Holds proof shown c admitted holds =
    let no : value (has c) shown.question ≡ false = second_false (value (has c) project.model) (value (has c) shown.question) admitted.admitted (shown.refutes.no_model (has c)) in
    let yes : value (has c) shown.question ≡ true = (shown.asks c admitted).1 holds in
    let both : ◌≡◌ {A = Bool} false true = sym no ∙ yes in
    cc
