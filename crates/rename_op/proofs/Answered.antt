-- What becomes of a renaming, by what is asked of the class at a place.
use Rattle.std.proofs.Common.{◌≡◌, ℕ, ◌<◌, List, length, map, sym, ap, ◌∙◌, subst, arith}
use Rattle.std.proofs.lemmas.List.{length-map}
use Rattle.text_edits.specs.declared.files.Files.{Files}
use Rattle.text_edits.specs.Files.{PlainFile, plain_file, plain_files}
use Rattle.c_text.specs.declared.origin.FileToken.{FileToken}
use Rattle.project_file.specs.Projects.{PlainProject}
use Rattle.project_store.specs.Reads.{names_of}
use Rattle.command_projects.specs.Least.{Nowhere, Somewhere}
use Rattle.renamed_sources.specs.Projects.{HasItsFiles}
use Rattle.program_occurrences.specs.Classes.{PlainFileToken}
use Rattle.reference_classes.specs.Preconditions.{IsFound}
use Rattle.reference_classes.specs.Renamed.{IsWrittenAt}
use Rattle.tied_tokens.specs.Tokens.{plain_file_tokens}
use Rattle.class_edits.specs.Places.{HoldsByte}
use Rattle.class_edits.specs.Laws.{BytesTellTokens}
use Rattle.project_classes.specs.Answers.{IsClassOf}
use Rattle.named_classes.specs.Classes.{NamedClass, Finds, IsNamedClass}

pub has-files : (project : PlainProject) (files : Files) → map (λ (f : PlainFile). f.name) (plain_files files) ≡ names_of project → length files.list.items < 4294967295 → HasItsFiles project (plain_files files)
has-files project files named few = record {
  one_each = sym (length-map (plain_files files) (λ (f : PlainFile). f.name)) ∙ ap (λ (names : List (List ℕ)). length names) named;
  few =
      let many : length (plain_files files) ≡ length files.list.items = length-map files.list.items plain_file in
      omega (arith, many, few);
}

module _ (project : PlainProject) (files : List PlainFile) (place : PlainFileToken) where
  -- where no product has an occurrence at the token that holds a byte, nothing is found at the byte
  pub nothing-found :
      BytesTellTokens → (Somewhere project (IsFound project files place) → ⊥) → (file offset : ℕ) → HoldsByte files file offset place
      → Nowhere project (Finds project files file offset)
  nothing-found one none file offset holds c admitted finds = none (record {
    witness = c;
    admitted = admitted;
    holds = subst (λ p. IsFound project files p c) (one files file offset finds.place place finds.holds holds) finds.found;
  })

  abbrev pub class-of : List FileToken → List ℕ → NamedClass
  class-of tokens old = record { place = place; old = old; tokens = plain_file_tokens tokens }

  pub named-class :
      (tokens : List FileToken) (old : List ℕ) → IsClassOf project files place tokens → IsWrittenAt files place old → (file offset : ℕ)
      → HoldsByte files file offset place → IsNamedClass project files file offset (class-of tokens old)
  named-class tokens old is written file offset holds = record { holds = holds; written = written; found = is.found; members = is.members; in_order = is.in_order }
