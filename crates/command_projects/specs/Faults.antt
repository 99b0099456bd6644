-- What is said of a fault of a project.
use Rattle.std.specs.Prelude.{◌≡◌, ℕ, List, ◌++◌, codes, decimal, Result, Ok, Err, ⊤}
use Rattle.std.specs.String.{string_bytes}
use Rattle.project_file.specs.Faults.{Fault, size, not_toml, shape, feature, duplicate, constraint}
use Rattle.project_file.specs.declared.errors.ProjectError.{ProjectError}
use Rattle.project_file.specs.declared.errors.ProjectError.TheVariants.{NotToml, Shape, Feature, Constraint, Duplicate, Size, Read, Memory}
use Rattle.command_promises.specs.declared.said.Said.{Said}
use Rattle.command_promises.specs.declared.said.Stop.{Stop}
use Rattle.command_promises.specs.declared.said.Stop.TheVariants.{ReadFault, WantOfMemory}
use Rattle.command_promises.specs.Courses.{Saying}
use Rattle.command_promises.specs.Sayings.{saying, line, tells}

abbrev pub fault_text : Fault → List ℕ
fault_text not_toml = codes "not toml"
fault_text (shape key) = codes "shape " ++ key
fault_text (feature name) = codes "feature " ++ name
fault_text (duplicate name) = codes "duplicate " ++ name
fault_text (constraint place) = codes "constraint " ++ decimal place
fault_text (size name) = codes "size " ++ name

abbrev pub of_text : List ℕ → Saying
of_text text = tells 5 (line (codes "bad project: " ++ text))

-- the project has this fault
abbrev pub bad_project : Fault → Saying
bad_project fault = of_text (fault_text fault)

-- the fault is said, unless memory ends
abbrev pub SaysFault : Fault → Result Said Stop → Type 0
SaysFault fault (Ok said) = saying said ≡ bad_project fault
SaysFault fault (Err ReadFault) = ⊥
SaysFault fault (Err WantOfMemory) = ⊤

-- what is said where a project isn't had for this cause
abbrev pub Refuses : ProjectError → Result Said Stop → Type 0
Refuses NotToml said = SaysFault not_toml said
Refuses (Shape key) said = SaysFault (shape (string_bytes key)) said
Refuses (Feature name) said = SaysFault (feature (string_bytes name)) said
Refuses (Constraint place) said = SaysFault (constraint place) said
Refuses (Duplicate name) said = SaysFault (duplicate (string_bytes name)) said
Refuses (Size name) said = SaysFault (size (string_bytes name)) said
Refuses Read said = said ≡ Err ReadFault
Refuses Memory said = said ≡ Err WantOfMemory

-- what is said, unless memory ended
abbrev pub IsSaidOrStops : {E : Type 0} → Result Said E → Result Said Stop → Type 0
IsSaidOrStops (Ok said) result = result ≡ Ok said
IsSaidOrStops (Err error) result = result ≡ Err WantOfMemory
