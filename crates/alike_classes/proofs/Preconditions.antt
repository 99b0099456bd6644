-- What stands in the way of renaming a class of a project does so in each that is alike.
use Rattle.std.proofs.Common.{◌≡◌, ℕ, Bool, List, inl, inr}
use Rattle.std.specs.Prelude.{Contains}
use Rattle.text_edits.specs.Files.{PlainFile}
use Rattle.cond_formula.specs.Features.{has}
use Rattle.project_file.specs.Projects.{PlainProject}
use Rattle.project_file.specs.Laws.{Alike}
use Rattle.project_program.proofs.AlikeProjects.{program_alike}
use Rattle.active_tokens.specs.Active.{IsActive, IsDefinedAt}
use Rattle.command_projects.proofs.Decided.{alike_back}
use Rattle.renamings.specs.Renamings.{Renaming, renamed_files}
use Rattle.program_occurrences.specs.Occurrences.{Occurrence}
use Rattle.program_occurrences.specs.Classes.{PlainFileToken, file_token}
use Rattle.reference_classes.specs.Preconditions.{HasNoProgram, ComesFromMacroBody, IsFixed, IsCaptured, not_accepted, bound_otherwise, IsFound, IsTouched, SomeOccurrence, IsReadAsMacro, Precondition, broken, in_macro_body, macro_name, fixed, capture, StandsInTheWay, Breaks, BreaksNamed}
use Rattle.alike_classes.specs.Laws.{PreconditionsAreAlike}
use Rattle.alike_classes.proofs.Projects.{seen-alike}
use Rattle.alike_classes.proofs.Classes.{product-alike, class-there}

module _ (a b : PlainProject) (alike : Alike a b) where
  no-program : (files : List PlainFile) (c : List Bool) → HasNoProgram a files c → HasNoProgram b files c
  no-program files c none program is = none program (program_alike b a files (has c) (alike_back a b alike) program is)

  module _ (files : List PlainFile) where
    captured-there : (r : Renaming) (c : List Bool) → IsCaptured a files r c → IsCaptured b files r c
    captured-there r c (not_accepted none) = not_accepted (no-program (renamed_files r 0 files) c none)
    captured-there r c (bound_otherwise before after differ) =
        bound_otherwise (product-alike a b alike files c before) (product-alike a b alike (renamed_files r 0 files) c after) differ

    module _ (place : PlainFileToken) (c : List Bool) where
      pub found-there : IsFound a files place c → IsFound b files place c
      found-there h = record { product = product-alike a b alike files c h.product; found = h.found; there = h.there }

      touched-there : IsTouched a files place c → IsTouched b files place c
      touched-there h =
          let seen = seen-alike a b alike files (has c) (λ sources file units. Contains units h.unit × IsActive sources (file h.unit) h.token.file h.token.span) (h.present, h.active) in
          record { token = h.token; member = class-there a b alike files place h.token h.member; unit = h.unit; present = seen.0; active = seen.1 }

      pub occurrence-there : (Holds : Occurrence → Type 0) → SomeOccurrence a files place c Holds → SomeOccurrence b files place c Holds
      occurrence-there Holds h = record {
        product = product-alike a b alike files c h.product;
        found = h.found;
        member = class-there a b alike files place (file_token h.found.occurrence) h.member;
        holds = h.holds;
      }

      macro-there : (name : List ℕ) → IsReadAsMacro a files place c name → IsReadAsMacro b files place c name
      macro-there name h =
          let seen = seen-alike a b alike files (has c) (λ sources file units. Contains units h.unit × IsDefinedAt sources (file h.unit) h.token.file h.token.span name) (h.present, h.defined) in
          record { token = h.token; member = class-there a b alike files place h.token h.member; unit = h.unit; present = seen.0; defined = seen.1 }

      module _ (r : Renaming) where
        in-the-way : (precondition : Precondition) → StandsInTheWay a files place r precondition c → StandsInTheWay b files place r precondition c
        in-the-way broken h = no-program files c h
        in-the-way in_macro_body h = occurrence-there ComesFromMacroBody h
        in-the-way macro_name (inl old) = inl (macro-there r.old old)
        in-the-way macro_name (inr new) = inr (macro-there r.new new)
        in-the-way fixed h = occurrence-there IsFixed h
        in-the-way capture h = captured-there r c h

        breaks-there : (precondition : Precondition) → Breaks a files place r precondition c → Breaks b files place r precondition c
        breaks-there precondition h = record {
          touched = touched-there h.touched;
          stands_in_the_way = in-the-way precondition h.stands_in_the_way;
        }

        named-there : (name : List ℕ) → BreaksNamed a files place r name c → BreaksNamed b files place r name c
        named-there name h = record { precondition = h.precondition; named = h.named; breaks = breaks-there h.precondition h.breaks }

pub preconditions-alike : PreconditionsAreAlike
preconditions-alike a b files alike =
    let back = alike_back a b alike in
    record {
      found = λ place c. (found-there a b alike files place c, found-there b a back files place c);
      touched = λ place c. (touched-there a b alike files place c, touched-there b a back files place c);
      occurrences = λ place c occurrence.
          (occurrence-there a b alike files place c (λ o. o ≡ occurrence), occurrence-there b a back files place c (λ o. o ≡ occurrence));
      read_as_macro = λ place c name. (macro-there a b alike files place c name, macro-there b a back files place c name);
      captured = λ r c. (captured-there a b alike files r c, captured-there b a back files r c);
      in_the_way = λ place r precondition c. (in-the-way a b alike files place c r precondition, in-the-way b a back files place c r precondition);
      broken = λ place r precondition c. (breaks-there a b alike files place c r precondition, breaks-there b a back files place c r precondition);
      broken_by_name = λ place r name c. (named-there a b alike files place c r name, named-there b a back files place c r name);
    }
