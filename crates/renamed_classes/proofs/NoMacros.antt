-- Neither name is a macro where a renamed token is read.
use Rattle.std.proofs.Common.{◌≡◌, ℕ, ◌<◌, ◌≤◌, Bool, true, false, List, [], ◌∷◌, length, map, refl, ap, sym, ◌∙◌, inl, inr, suc, arith}
use Rattle.std.specs.Prelude.{◌⊎◌, All, Contains, IsTrue}
use Rattle.std.specs.List.{AllByRecursion, list_any}
use Rattle.std.proofs.lemmas.Bool.{cases_lt, false≢true}
use Rattle.std.proofs.lemmas.List.Elements.{All-from_recursion}
use Rattle.text_edits.specs.Span.{PlainSpan}
use Rattle.text_edits.specs.Files.{PlainFile}
use Rattle.cond_formula.specs.Features.{has}
use Rattle.c_text.specs.Preprocessing.{Sources}
use Rattle.project_file.specs.Projects.{PlainProject}
use Rattle.plain_pp.specs.Units.{sources_of, file_of}
use Rattle.project_program.specs.Programs.{present_units}
use Rattle.command_projects.specs.Least.{IsAdmitted, Nowhere}
use Rattle.active_tokens.specs.Active.{IsActive, IsDefinedAt}
use Rattle.renamings.specs.Renamings.{Renaming, same_span, is_renamed}
use Rattle.renamed_units.specs.Laws.{AreNoMacros}
use Rattle.program_occurrences.specs.Classes.{PlainFileToken}
use Rattle.reference_classes.specs.Products.{InClass}
use Rattle.reference_classes.specs.Preconditions.{IsReadAsMacro, macro_name, Breaks}
use Rattle.reference_classes.specs.Renamed.{RenamesClass}
use Rattle.renamed_sources.specs.Projects.{present_files}
use Rattle.renamed_classes.specs.Laws.{NamesAreNoMacros}

-- what is read while a name is defined is read
read-then : (s : Sources) (number file : ℕ) (span : PlainSpan) (name : List ℕ) → IsDefinedAt s number file span name → IsActive s number file span
read-then s number file span name defined x are misplaced told =
    let d = defined x are misplaced told in
    record { read = d.read; token = d.token; among = d.among; within = d.within; file_is = d.file_is; span_is = d.span_is; holds = tt }

-- what is renamed is of the class
pub in-class : (project : PlainProject) (files : List PlainFile) (place : PlainFileToken) (new : List ℕ) (r : Renaming) → RenamesClass project files place new r → (file : ℕ) (span : PlainSpan) → IsTrue (is_renamed r file span) → InClass project files place (record { file = file; span = span })
in-class project files place new r renames file span renamed = by (cases_lt file (length files))
  where
    by : (file < length files) ⊎ (length files ≤ file) → InClass project files place (record { file = file; span = span })
    by (inl below) = (renames.members (record { file = file; span = span }) below).0 renamed
    by (inr past) =
        let none : is_renamed r file span ≡ false = ap (λ (spans : List PlainSpan). list_any (same_span span) spans) (renames.elsewhere file past) in
        let no : false ≡ true = sym none ∙ renamed in
        absurd (false≢true no)

module _ (project : PlainProject) (files : List PlainFile) (place : PlainFileToken) (new : List ℕ) (r : Renaming) (c : List Bool) (renames : RenamesClass project files place new r) (unhindered : Nowhere project (Breaks project files place r macro_name)) (admitted : IsAdmitted project c) where
  module _ (unit : ℕ) (present : Contains (present_units project (has c)) unit) where
    not-defined : (name : List ℕ) → (IsReadAsMacro project files place c name → IsReadAsMacro project files place c r.old ⊎ IsReadAsMacro project files place c r.new) → (file : ℕ) (span : PlainSpan) → IsTrue (is_renamed r file span) → IsDefinedAt (sources_of project files (has c)) (file_of project unit) file span name → ⊥
    not-defined name which file span renamed defined =
        let token : PlainFileToken = record { file = file; span = span } in
        let member : InClass project files place token = in-class project files place new r renames file span renamed in
        unhindered c admitted (record {
          touched = record { token = token; member = member; unit = unit; present = present; active = read-then (sources_of project files (has c)) (file_of project unit) file span name defined };
          stands_in_the_way = which (record { token = token; member = member; unit = unit; present = present; defined = defined });
        })

    no-macros : AreNoMacros r (sources_of project files (has c)) (file_of project unit)
    no-macros = record { old_name = not-defined r.old inl; new_name = not-defined r.new inr }

  each-unit : (units : List ℕ) → ((unit : ℕ) → Contains units unit → Contains (present_units project (has c)) unit) → AllByRecursion (AreNoMacros r (sources_of project files (has c))) (map (file_of project) units)
  each-unit [] among = tt
  each-unit (unit ∷ units) among =
      (no-macros unit (among unit (0, omega arith, refl)), each-unit units (λ other i. among other (suc i.0, omega (arith, i.1), i.2)))

  all-units : All (AreNoMacros r (sources_of project files (has c))) (present_files project (has c))
  all-units = All-from_recursion (AreNoMacros r (sources_of project files (has c))) (present_files project (has c)) (each-unit (present_units project (has c)) (λ unit i. i))

pub names-no-macros : NamesAreNoMacros
names-no-macros project files place new r c renames unhindered admitted = all-units project files place new r c renames unhindered admitted
