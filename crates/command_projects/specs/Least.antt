-- Questions about all configurations of a project, and the least that answers one.
use Rattle.std.specs.Prelude.{◌≡◌, ◌⊎◌, ℕ, ◌≤◌, Bool, false, List, length, IsTrue}
use Rattle.cond_formula.specs.Features.{has}
use Rattle.cond_formula.specs.Conditions.{value}
use Rattle.sat_core.specs.Models.{IsLess, AreSame}
use Rattle.project_file.specs.Projects.{PlainProject}

-- a configuration of the project's features that it admits
pub record IsAdmitted (project : PlainProject) (c : List Bool) : Type 0 where
  pub within : (feature : ℕ) → length project.features ≤ feature → has c feature ≡ false
  pub admitted : IsTrue (value (has c) project.model)

-- of no configuration that the project admits
abbrev pub Nowhere : PlainProject → (List Bool → Type 0) → Type 0
Nowhere project Holds = (c : List Bool) → IsAdmitted project c → Holds c → ⊥

-- of some
pub record Somewhere (project : PlainProject) (Holds : List Bool → Type 0) : Type 0 where
  pub witness : List Bool
  pub admitted : IsAdmitted project witness
  pub holds : Holds witness

-- The least configuration that the project admits and of which this holds: of two the lesser is the one in which the first feature
-- that differs is off.
pub record IsLeast (project : PlainProject) (Holds : List Bool → Type 0) (c : List Bool) : Type 0 where
  pub admitted : IsAdmitted project c
  pub holds : Holds c
  pub least : (other : List Bool) → IsAdmitted project other → Holds other
      → AreSame (length project.features) (has c) (has other) ⊎ IsLess (length project.features) (has c) (has other)
