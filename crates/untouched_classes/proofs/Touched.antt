-- A unit that reads a renamed token touches the class that is renamed.
use Rattle.std.proofs.Common.{◌≡◌, ◌⊎◌, ℕ, ◌<◌, Bool, true, false, List, length, Contains, IsTrue, inl, inr, sym, ap, ◌∙◌}
use Rattle.std.specs.List.{list_any}
use Rattle.std.proofs.lemmas.Bool.{cases_lt}
use Rattle.text_edits.specs.Span.{PlainSpan}
use Rattle.text_edits.specs.Files.{PlainFile}
use Rattle.cond_formula.specs.Features.{has}
use Rattle.project_file.specs.Projects.{PlainProject}
use Rattle.plain_pp.specs.Units.{sources_of, file_of}
use Rattle.project_program.specs.Programs.{present_units}
use Rattle.active_tokens.specs.Active.{IsActive}
use Rattle.renamings.specs.Renamings.{Renaming, is_renamed, same_span, FitsFiles}
use Rattle.program_occurrences.specs.Classes.{PlainFileToken}
use Rattle.reference_classes.specs.Renamed.{RenamesClass}
use Rattle.reference_classes.specs.Preconditions.{IsTouched}
use Rattle.renamed_sources.specs.Projects.{HasItsFiles}
use Rattle.untouched_projects.specs.Untouched.{ReadRenamed, ReadNoRenamed, IsUntouched}
use Rattle.untouched_projects.specs.Laws.{TouchingIsDecided, UntouchedUnitsKeepOutcomes, UntouchedProjectsKeepPrograms, UntouchedProjectsKeepRefusals}
use Rattle.untouched_classes.specs.Laws.{ClassesAreTouchedOrNot, UntouchedClassesKeepProducts, UntouchedClassesKeepOutcomes}

module _ (project : PlainProject) (files : List PlainFile) (place : PlainFileToken) (new : List ℕ) (r : Renaming) (c : List Bool) (renames : RenamesClass project files place new r) where
  in_files : (file : ℕ) (span : PlainSpan) → IsTrue (is_renamed r file span) → file < length files
  in_files file span renamed = elim (cases_lt file (length files)) as (λ z. file < length files) [
    | inl below ↦ below
    | inr above ↦
        let none : is_renamed r file span ≡ false = ap (λ (l : List PlainSpan). list_any (same_span span) l) (renames.elsewhere file above) in
        let both : false ≡ true = sym none ∙ renamed in
        absurd cc
  ]

  touched_by : (unit file : ℕ) (span : PlainSpan) → Contains (present_units project (has c)) unit → IsTrue (is_renamed r file span) → IsActive (sources_of project files (has c)) (file_of project unit) file span → IsTouched project files place c
  touched_by unit file span present renamed active =
      let token : PlainFileToken = record { file = file; span = span } in
      record {
        token = token;
        member = (renames.members token (in_files file span renamed)).0 renamed;
        unit = unit;
        present = present;
        active = active;
      }

  touched : ReadRenamed r project files (has c) → IsTouched project files place c
  touched read = touched_by read.unit read.reads.file read.reads.span read.present read.reads.renamed read.reads.active

  none_read : (IsTouched project files place c → ⊥) → ReadNoRenamed r project files (has c)
  none_read untouched unit present file span renamed active = untouched (touched_by unit file span present renamed active)

  touched_or_not : TouchingIsDecided → HasItsFiles project files → IsTouched project files place c ⊎ ReadNoRenamed r project files (has c)
  touched_or_not decided have = elim (decided r project files (has c) have) as (λ z. IsTouched project files place c ⊎ ReadNoRenamed r project files (has c)) [
    | inl read ↦ inl (touched read)
    | inr none ↦ inr none
  ]

  is_untouched : HasItsFiles project files → FitsFiles r files → (IsTouched project files place c → ⊥) → IsUntouched r project files (has c)
  is_untouched have fits untouched = record { has_files = have; fits = fits; unread = none_read untouched }

pub all_touched_or_not : TouchingIsDecided → ClassesAreTouchedOrNot
all_touched_or_not decided project files place new r c have renames = touched_or_not project files place new r c renames decided have

pub products_kept : UntouchedProjectsKeepPrograms → UntouchedProjectsKeepRefusals → UntouchedClassesKeepProducts
products_kept programs refusals = record {
  programs = λ project files place new r c p have fits renames untouched.
      programs r project files (has c) p (is_untouched project files place new r c renames have fits untouched);
  refusals = λ project files place new r c stage have fits renames untouched.
      refusals r project files (has c) stage (is_untouched project files place new r c renames have fits untouched);
}

pub outcomes_kept : UntouchedUnitsKeepOutcomes → UntouchedClassesKeepOutcomes
outcomes_kept outcomes project files place new r c unit outcome have fits renames untouched present is =
    outcomes.keeps r project files (has c) unit outcome (is_untouched project files place new r c renames have fits untouched) present is
