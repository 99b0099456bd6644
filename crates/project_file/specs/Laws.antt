-- LAWS, each the contract of a function of this crate.
use Rattle.std.specs.Prelude.{◌≡◌, ℕ, Bool, List, [], ◌∷◌, ⊤}
use Rattle.cond_formula.specs.Conditions.{value}
use Rattle.project_file.specs.Projects.{PlainUnit, PlainProject, IsProject}
use Rattle.project_file.specs.Faults.{Fault, FirstFault}

-- a file that says a project has no fault
abbrev pub ProjectsHaveNoFault : Type 0
ProjectsHaveNoFault =
    (name bytes : List ℕ) (project : PlainProject) (fault : Fault) → IsProject name bytes project → FirstFault name bytes fault → ⊥

-- a file has one first fault at most
abbrev pub FirstFaultIsOne : Type 0
FirstFaultIsOne = (name bytes : List ℕ) (a b : Fault) → FirstFault name bytes a → FirstFault name bytes b → a ≡ b

-- units of the same files, one by one, that are present in the same configurations
abbrev pub AreAlike : List PlainUnit → List PlainUnit → Type 0
AreAlike [] [] = ⊤
AreAlike [] (b ∷ bs) = ⊥
AreAlike (a ∷ as_) [] = ⊥
AreAlike (a ∷ as_) (b ∷ bs) = (a.file ≡ b.file) × ((on : ℕ → Bool) → value on a.when ≡ value on b.when) × AreAlike as_ bs

-- projects that differ at most in how their conditions are written
pub record Alike (a b : PlainProject) : Type 0 where
  pub name : a.name ≡ b.name
  pub features : a.features ≡ b.features
  pub headers : a.headers ≡ b.headers
  pub model : (on : ℕ → Bool) → value on a.model ≡ value on b.model
  pub units : AreAlike a.units b.units

-- a file says one project
abbrev pub ProjectsAreAlike : Type 0
ProjectsAreAlike = (name bytes : List ℕ) (a b : PlainProject) → IsProject name bytes a → IsProject name bytes b → Alike a b
