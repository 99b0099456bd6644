-- What is found of the configurations of which one thing holds, where another holds of the same.
use Rattle.std.specs.Prelude.{◌↔◌, Bool, List}
use Rattle.project_file.specs.Projects.{PlainProject}
use Rattle.command_projects.specs.Least.{IsAdmitted, Nowhere, IsLeast}
use Rattle.project_questions.specs.Questions.{IsFound}
use Rattle.project_questions.specs.declared.Finding.{Finding}
use Rattle.project_questions.specs.declared.Finding.TheVariants.{Least, Never}

module _ (project : PlainProject) (Holds Other : List Bool → Type 0) (same : (c : List Bool) → IsAdmitted project c → Holds c ↔ Other c) where
  pub nowhere-of-same : Nowhere project Holds → Nowhere project Other
  nowhere-of-same none c admitted other = none c admitted ((same c admitted).1 other)

  pub least-of-same : (c : List Bool) → IsLeast project Holds c → IsLeast project Other c
  least-of-same c is = record {
    admitted = is.admitted;
    holds = (same c is.admitted).0 is.holds;
    least = λ other admitted holds. is.least other admitted ((same other admitted).1 holds);
  }

  pub found-of-same : (found : Finding) → IsFound project Holds found → IsFound project Other found
  found-of-same (Least c) is = least-of-same c is
  found-of-same (Never proof) shown = record {
    question = shown.question;
    asks = λ c admitted. (λ h. (same c admitted).0 ((shown.asks c admitted).0 h), λ x. (shown.asks c admitted).1 ((same c admitted).1 x));
    refutes = shown.refutes;
  }
