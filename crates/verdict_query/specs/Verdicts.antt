-- Questions about the configurations that a model admits, and what is answered.
use Rattle.std.specs.Prelude.{◌≡◌, ℕ, ◌≤◌, List, [], ◌∷◌, Bool, ⊤}
use Rattle.cond_formula.specs.Conditions.{Condition, All_of, none, more, value, condition_of, VarsBelow}
use Rattle.cond_formula.specs.declared.formulas.Formula.{Formula}
use Rattle.clause_search.specs.Answers.{literals_of, steps_of}
use Rattle.sat_core.specs.Models.{IsLeastModel, HasNoModel}
use Rattle.sat_core.specs.Answers.{Refutes}
use Rattle.verdict_query.specs.declared.questions.Verdict.{Verdict}
use Rattle.verdict_query.specs.declared.questions.Verdict.TheVariants.{Never, Least, Memory}

-- true in the configurations that the model admits and in which the condition is true
abbrev pub where_admitted : Condition → Condition → Condition
where_admitted admitted condition = All_of (more admitted (more condition none))

-- none of the formulas is true in a configuration that the model admits
unfoldable pub AreNever : Condition → List Formula → Type 0
AreNever admitted [] = ⊤
AreNever admitted (f ∷ fs) = HasNoModel (where_admitted admitted (condition_of f)) × AreNever admitted fs

-- The least admitted configuration that makes the condition true; or a refutation, where none does; or want of memory. Every
-- feature that a project may have counts as one.
abbrev pub IsVerdict : (admitted condition : Condition) → Verdict → Type 0
IsVerdict admitted condition (Least config) = IsLeastModel 128 (where_admitted admitted condition) config
IsVerdict admitted condition (Never proof) =
    Refutes 128 (where_admitted admitted condition) proof.vars (literals_of proof.given.items) (steps_of proof.steps.items)
IsVerdict admitted condition Memory = ⊤

-- The least model over more features than the condition names is the least over those that it names.
abbrev pub FewerFeaturesLaw : Type 0
FewerFeaturesLaw =
    (features most : ℕ) → features ≤ most → (condition : Condition) → VarsBelow features condition → (config : List Bool) → IsLeastModel most condition config → IsLeastModel features condition config

-- Conditions that are true in the same configurations have the same least model.
abbrev pub EqualConditionsLaw : Type 0
EqualConditionsLaw =
    (features : ℕ) (one other : Condition) → ((on : ℕ → Bool) → value on one ≡ value on other) → (config : List Bool) → IsLeastModel features one config → IsLeastModel features other config
