-- What is asked of the configurations of a project, and what is found.
use Rattle.std.specs.Prelude.{◌↔◌, Bool, List, IsTrue}
use Rattle.cond_formula.specs.Conditions.{Condition, value}
use Rattle.cond_formula.specs.Features.{has}
use Rattle.clause_search.specs.Answers.{literals_of, steps_of}
use Rattle.sat_core.specs.Answers.{Refutes}
use Rattle.sat_core.specs.declared.answers.Proof.{Proof}
use Rattle.verdict_query.specs.Verdicts.{where_admitted}
use Rattle.project_file.specs.Projects.{PlainProject}
use Rattle.command_projects.specs.Least.{IsAdmitted, IsLeast}
use Rattle.project_questions.specs.declared.Finding.{Finding}
use Rattle.project_questions.specs.declared.Finding.TheVariants.{Least, Never}

abbrev pub IsTrueIn : Condition → List Bool → Type 0
IsTrueIn condition c = IsTrue (value (has c) condition)

module _ (project : PlainProject) (Holds : List Bool → Type 0) where
  -- No admitted configuration is such, as the proof shows: it refutes a translation of a question about the project's model that is true in just
  -- the admitted configurations that are.
  pub record ShowsNone (proof : Proof) : Type 0 where
    pub question : Condition
    pub asks : (c : List Bool) → IsAdmitted project c → IsTrueIn question c ↔ Holds c
    pub refutes : Refutes 128 (where_admitted project.model question) proof.vars (literals_of proof.given.items) (steps_of proof.steps.items)

  -- the least admitted configuration that is such, or a proof that none is
  abbrev pub IsFound : Finding → Type 0
  IsFound (Least c) = IsLeast project Holds c
  IsFound (Never proof) = ShowsNone proof
