-- Why a project isn't had, by weaker causes.
use Rattle.std.proofs.Common.{◌≡◌, sym, subst}
use Rattle.project_file.specs.declared.errors.ProjectError.{ProjectError}
use Rattle.project_file.specs.declared.errors.ProjectError.TheVariants.{NotToml, Shape, Feature, Constraint, Duplicate, Size, Read, Memory}
use Rattle.project_file.specs.Faults.{Fault}
use Rattle.project_file.specs.View.{Why}

pub Why-weaker : (P Q : Fault → Type 0) (U V : Type 0) (error : ProjectError) → ((fault : Fault) → P fault → Q fault) → (U → V) → Why P U error → Why Q V error
Why-weaker P Q U V NotToml f g w = f _ w
Why-weaker P Q U V (Shape key) f g w = f _ w
Why-weaker P Q U V (Feature name) f g w = f _ w
Why-weaker P Q U V (Constraint place) f g w = f _ w
Why-weaker P Q U V (Duplicate name) f g w = f _ w
Why-weaker P Q U V (Size name) f g w = f _ w
Why-weaker P Q U V Read f g w = g w
Why-weaker P Q U V Memory f g w = tt

-- an error about one fault, which there is
pub Why-is : (Q : Fault → Type 0) (fault : Fault) (error : ProjectError) → Q fault → Why (λ other. other ≡ fault) ⊥ error → Why Q ⊥ error
Why-is Q fault error q w = Why-weaker (λ other. other ≡ fault) Q ⊥ ⊥ error (λ other e. subst Q (sym e) q) (λ no. no) w
