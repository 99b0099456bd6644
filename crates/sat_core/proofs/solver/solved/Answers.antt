use Rattle.std.proofs.Common.{◌≡◌, ℕ, ℤ, Bool, List, sym, subst, arith}
use Rattle.std.specs.Prelude.{Vec}
use Rattle.std.specs.declared.alloc.Global.{Global}
use Rattle.cond_formula.specs.Conditions.{Condition, condition_of, VarsBelow}
use Rattle.refute_check.specs.Refutations.{IsRefutation}
use Rattle.clause_search.specs.declared.answers.Step.{Step}
use Rattle.clause_search.specs.declared.answers.Found.{Found}
use Rattle.clause_search.specs.declared.answers.Found.TheVariants.{Least, Refuted}
use Rattle.clause_search.specs.Answers.{literals_of, steps_of, IsFound}
use Rattle.clause_search.specs.Least.{IsLeast}
use Rattle.sat_core.specs.Answers.{Refutes}
use Rattle.sat_core.specs.Translations.{IsTranslation, NoModelLaw}
use Rattle.sat_core.proofs.LeastLaws.{features_within, least_model}
use Rattle.sat_core.proofs.solver.solved.Goals as goal

-- what the search answers, for clauses that were passed as a slice
found_least : (vars : ℕ) (clauses slice : List (Vec ℤ Global)) (found : Found) (values : Vec Bool Global) → slice ≡ clauses → found ≡ Least values → IsFound vars (literals_of slice) found → IsLeast vars (literals_of clauses) values.items
found_least vars clauses slice found values same is answer =
    subst (λ (all : List (Vec ℤ Global)). IsLeast vars (literals_of all) values.items) same (subst (IsFound vars (literals_of slice)) is answer)

refutes : (features : ℕ) (condition : Condition) (vars : ℕ) (clauses slice : List (Vec ℤ Global)) (found : Found) (steps : Vec Step Global) → NoModelLaw → VarsBelow features condition → IsTranslation features condition vars (literals_of clauses) → slice ≡ clauses → found ≡ Refuted steps → IsFound vars (literals_of slice) found → Refutes features condition vars (literals_of clauses) (steps_of steps.items)
refutes features condition vars clauses slice found steps law below translation same is answer =
    let refutation : IsRefutation vars (literals_of clauses) (steps_of steps.items) = subst (λ (all : List (Vec ℤ Global)). IsRefutation vars (literals_of all) (steps_of steps.items)) same (subst (IsFound vars (literals_of slice)) is answer) in
    record {
      translation = translation;
      refutation = refutation;
      no_model = law features condition vars (literals_of clauses) (steps_of steps.items) below translation refutation;
    }

pub config_of-requires-clause-within : goal.config_of-requires-clause-within
config_of-requires-clause-within c =
    let t = c.in_ok-vars.field-0 in
    let least = found_least t.vars t.clauses.items c.deref.result.now c.in_ok-values.field-0 c.in-Least.values c.deref.ensures.value c.in-Least.is c.in_ok-values.ensures in
    let within = features_within c.args.features (condition_of c.args.formula.now) t.vars (literals_of t.clauses.items) c.in_ok-vars.ensures in
    let sized = least.sized in
    omega arith

pub returns-in-Least : goal.returns-in-Least
returns-in-Least c =
    let t = c.in_ok-vars.field-0 in
    let least = found_least t.vars t.clauses.items c.deref.result.now c.in_ok-values.field-0 c.in-Least.values c.deref.ensures.value c.in-Least.is c.in_ok-values.ensures in
    let values = c.deref-in-Least.result.now in
    let least_values : IsLeast t.vars (literals_of t.clauses.items) values = subst (IsLeast t.vars (literals_of t.clauses.items)) (sym c.deref-in-Least.ensures.value) least in
    least_model c.args.features (condition_of c.args.formula.now) t.vars (literals_of t.clauses.items) c.in_ok-vars.ensures c.requires.numbered values least_values c.config_of.result c.config_of.ensures.on c.config_of.ensures.off

pub returns-in-Refuted : goal.returns-in-Refuted
returns-in-Refuted c =
    let t = c.in_ok-vars.field-0 in
    refutes c.args.features (condition_of c.args.formula.now) t.vars t.clauses.items c.deref.result.now c.in_ok-values.field-0 c.in-Refuted.steps c.refuted_formulas_have_no_model.ensures c.requires.numbered c.in_ok-vars.ensures c.deref.ensures.value c.in-Refuted.is c.in_ok-values.ensures
