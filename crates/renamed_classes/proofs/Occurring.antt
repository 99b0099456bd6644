-- Each token of a class has an occurrence in some product.
use Rattle.std.proofs.Common.{◌≡◌, Bool, List, Some, refl, ap, subst}
use Rattle.std.specs.List.{slice_get}
use Rattle.text_edits.specs.Files.{PlainFile}
use Rattle.bindings.specs.Judged.{Identified}
use Rattle.project_file.specs.Projects.{PlainProject}
use Rattle.command_projects.specs.Least.{Somewhere}
use Rattle.program_occurrences.specs.Occurrences.{UnitNames, OccursIn}
use Rattle.program_occurrences.specs.Classes.{PlainFileToken, copied_by, file_token, declaring_token, Brings, by_declaration, by_occurrence, by_name, itself, brought}
use Rattle.program_occurrences.specs.Laws.{DeclarationsAreOccurrences}
use Rattle.reference_classes.specs.Products.{Product, names_in, AreOfProduct, InClass}
use Rattle.reference_classes.specs.Preconditions.{IsFound}

pub record OccursSomewhere (project : PlainProject) (files : List PlainFile) (token : PlainFileToken) : Type 0 where
  pub configuration : List Bool
  pub product : Product project files configuration
  pub found : OccursIn (names_in product)
  pub there : file_token found.occurrence ≡ token

module _ (declared : DeclarationsAreOccurrences) (project : PlainProject) (files : List PlainFile) where
  pub occurs-in : {units : List UnitNames} (are : AreOfProduct project files units) (o : OccursIn units) → OccursSomewhere project files (file_token o.occurrence)
  occurs-in are o = record {
    configuration = are.configuration;
    product = are.product;
    found = record {
      place = o.place;
      unit = o.unit;
      is_unit = subst (λ (us : List UnitNames). slice_get us o.place ≡ Some o.unit) are.same o.is_unit;
      occurrence = o.occurrence;
      among = o.among;
    };
    there = refl;
  }

  declaring-occurs : {units : List UnitNames} (are : AreOfProduct project files units) (o : OccursIn units) → OccursSomewhere project files (declaring_token o.occurrence)
  declaring-occurs are o =
      let d = declared o.unit o.occurrence o.among in
      subst (OccursSomewhere project files) (ap (λ (i : Identified). copied_by i.token) d.identifier)
      (occurs-in are (record { place = o.place; unit = o.unit; is_unit = o.is_unit; occurrence = d.declaration; among = d.among }))

  brought-occurs : {units : List UnitNames} {a b : PlainFileToken} → AreOfProduct project files units → Brings units a b → OccursSomewhere project files b
  brought-occurs are (by_declaration o) = declaring-occurs are o
  brought-occurs are (by_occurrence o p place same) = occurs-in are p
  brought-occurs are (by_name o p name first other known also) = occurs-in are p

  pub occurs : (place : PlainFileToken) → Somewhere project (IsFound project files place) → (token : PlainFileToken) → InClass project files place token → OccursSomewhere project files token
  occurs place f token itself = record { configuration = f.witness; product = f.holds.product; found = f.holds.found; there = f.holds.there }
  occurs place f token (brought units are inner brings) = brought-occurs are brings
