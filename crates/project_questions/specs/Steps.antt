-- What is found of a model and a condition by what is answered of them.
use Rattle.cond_formula.specs.Conditions.{Condition}
use Rattle.clause_search.specs.Answers.{literals_of, steps_of}
use Rattle.sat_core.specs.Answers.{Refutes}
use Rattle.sat_core.specs.Models.{IsLeastModel}
use Rattle.verdict_query.specs.Verdicts.{where_admitted}
use Rattle.project_questions.specs.declared.Finding.{Finding}
use Rattle.project_questions.specs.declared.Finding.TheVariants.{Least, Never}

abbrev pub IsVerdictFound : (admitted condition : Condition) → Finding → Type 0
IsVerdictFound admitted condition (Least c) = IsLeastModel 128 (where_admitted admitted condition) c
IsVerdictFound admitted condition (Never proof) =
    Refutes 128 (where_admitted admitted condition) proof.vars (literals_of proof.given.items) (steps_of proof.steps.items)
