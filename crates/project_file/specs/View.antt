-- This crate's types as definitions see them.
use Rattle.std.specs.Prelude.{ℕ, List, map, Option, Some, None, option_map, String, Vec, string_bytes, ⊤}
use Rattle.std.specs.declared.alloc.Global.{Global}
use Rattle.cond_formula.specs.Conditions.{condition_of}
use Rattle.feature_model.specs.ModelView.{admitted}
use Rattle.project_file.specs.declared.projects.Unit.{Unit as SourceUnit}
use Rattle.project_file.specs.declared.projects.Project.{Project}
use Rattle.project_file.specs.declared.errors.ProjectError.{ProjectError}
use Rattle.project_file.specs.declared.errors.ProjectError.TheVariants.{NotToml, Shape, Feature, Constraint, Duplicate, Size, Read, Memory}
use Rattle.project_file.specs.declared.contents.UnitText.{UnitText as CodeUnitText}
use Rattle.project_file.specs.declared.contents.Contents.{Contents as CodeContents}
use Rattle.project_file.specs.Contents.{UnitText, Contents}
use Rattle.project_file.specs.Projects.{PlainUnit, PlainProject}
use Rattle.project_file.specs.Faults.{Fault, size, not_toml, shape, feature, duplicate, constraint}

abbrev pub unit_view : SourceUnit → PlainUnit
unit_view u = record { file = string_bytes u.file; when = condition_of u.when }

abbrev pub project_view : Project → PlainProject
project_view p = record {
  name = string_bytes p.name;
  features = map string_bytes p.features.items;
  model = admitted p.model;
  headers = map string_bytes p.headers.items;
  units = map unit_view p.units.items;
}

abbrev pub strings_view : Vec (String Global) Global → List (List ℕ)
strings_view texts = map string_bytes texts.items

abbrev pub unit_text_view : CodeUnitText → UnitText
unit_text_view u = record { file = string_bytes u.file; when = option_map string_bytes u.when }

abbrev pub unit_texts_view : Vec CodeUnitText Global → List UnitText
unit_texts_view units = map unit_text_view units.items

abbrev pub contents_view : CodeContents → Contents
contents_view c = record {
  features = strings_view c.features;
  constraints = strings_view c.constraints;
  headers = strings_view c.headers;
  units = unit_texts_view c.units;
}

-- What was found has the property; where nothing was found, nothing has it.
abbrev pub Finds : {X Y : Type 0} → (X → Y) → (Y → Type 0) → Option X → Type 0
Finds {X} {Y} seen Has None = (y : Y) → Has y → ⊥
Finds seen Has (Some x) = Has (seen x)

-- why a project isn't had: a fault of this kind, a read that failed for this cause, or want of memory
abbrev pub Why : (Fault → Type 0) → Type 0 → ProjectError → Type 0
Why Is Unread NotToml = Is not_toml
Why Is Unread (Shape key) = Is (shape (string_bytes key))
Why Is Unread (Feature name) = Is (feature (string_bytes name))
Why Is Unread (Constraint place) = Is (constraint place)
Why Is Unread (Duplicate name) = Is (duplicate (string_bytes name))
Why Is Unread (Size name) = Is (size (string_bytes name))
Why Is Unread Read = Unread
Why Is Unread Memory = ⊤
