-- The list of a class whose tokens are names on text lines is renamed as the class.
use Rattle.std.proofs.Common.{◌<◌, List, [], length, refl, ap, ◌∙◌}
use Rattle.std.specs.Prelude.{slice_index_or}
use Rattle.text_edits.specs.Files.{PlainFile}
use Rattle.command_projects.specs.Least.{Nowhere, Somewhere}
use Rattle.program_occurrences.specs.Classes.{PlainFileToken}
use Rattle.reference_classes.specs.Preconditions.{in_macro_body, IsFound, Breaks}
use Rattle.reference_classes.specs.Renamed.{RenamesClass}
use Rattle.tied_tokens.specs.Tokens.{plain_file_tokens, AreInOrder}
use Rattle.class_touches.specs.Laws.{IsListOf}
use Rattle.renamings.specs.Renamings.{Renaming}
use Rattle.renamed_sources.specs.Projects.{HasItsFiles}
use Rattle.class_edits.specs.Listed.{StandApart}
use Rattle.class_edits.specs.Places.{IsTokenOf}
use Rattle.class_edits.specs.Laws.{ListedStandApart, ListedClassesAreRenamed}
use Rattle.project_file.specs.Projects.{PlainProject}
use Rattle.renamed_classes.specs.Laws.{IsTextNameSomewhere, ClassesStandOnTextLines}
use Rattle.renamed_classes.specs.Renaming.{RenamesOnTextLines}
use Rattle.rename_op.specs.Asked.{IsAsked, BreaksIn, project_of, files_of, renaming}
use Rattle.renamed_classes.proofs.OneName.{file-below}
use Rattle.rename_op.specs.declared.asked.Asked.{Asked}

-- a name on a text line is a token of the file's text
token-of-text : (project : PlainProject) (files : List PlainFile) (token : PlainFileToken) → token.file < length files → IsTextNameSomewhere project files token → IsTokenOf files token
token-of-text project files token below t =
    let name = t.there in
    let on = name.on_line in
    record {
      name = on.copied.text;
      written = record {
        file = slice_index_or files token.file (record { name = []; bytes = [] });
        is_file = file-below files token.file (record { name = []; bytes = [] }) below;
        lines = on.lines;
        are_lines = on.are_lines;
        line = on.line;
        among = on.among;
        there = on.copied;
        within = on.within;
        span_is = on.span ∙ ap (λ (x : PlainFileToken). x.span) name.copies;
        text = refl;
      };
    }

-- The tokens of a class, in their order, stand apart where none of them comes out of the body of a macro.
pub tokens-apart : ClassesStandOnTextLines → ListedStandApart → (project : PlainProject) (files : List PlainFile) (place : PlainFileToken) (tokens : List PlainFileToken) (r : Renaming)
    → HasItsFiles project files → Somewhere project (IsFound project files place) → Nowhere project (Breaks project files place r in_macro_body)
    → IsListOf project files place tokens → AreInOrder tokens → StandApart files tokens
tokens-apart stand apart project files place tokens r has_files found in_text members in_order =
    apart files tokens in_order (λ token below among.
    token-of-text project files token below (stand project files place r has_files found in_text token below ((members token).0 among)))

module _ (asked : Asked) (place : PlainFileToken) (is : IsAsked asked place) (in_text : Nowhere (project_of asked) (BreaksIn asked place in_macro_body)) where
  abbrev tokens : List PlainFileToken
  tokens = plain_file_tokens asked.class.now

  pub stand-apart : ClassesStandOnTextLines → ListedStandApart → StandApart (files_of asked) tokens
  stand-apart stand apart = tokens-apart stand apart (project_of asked) (files_of asked) place tokens (renaming asked) is.has_files is.found in_text is.members is.in_order

-- the laws that it follows from
pub record NamedLaws : Type 0 where
  pub stand : ClassesStandOnTextLines
  pub apart : ListedStandApart
  pub renamed : ListedClassesAreRenamed

module _ (laws : NamedLaws) (asked : Asked) (place : PlainFileToken) (is : IsAsked asked place) (in_text : Nowhere (project_of asked) (BreaksIn asked place in_macro_body)) where
  pub renames-class : RenamesClass (project_of asked) (files_of asked) place asked.new.now (renaming asked)
  renames-class = laws.renamed (project_of asked) (files_of asked) place (plain_file_tokens asked.class.now) asked.old.now asked.new.now
      (stand-apart asked place is in_text laws.stand laws.apart) (λ token below. is.members token) is.written

  pub on-text-lines : RenamesOnTextLines (project_of asked) (files_of asked) place asked.new.now (renaming asked)
  on-text-lines = record { has_files = is.has_files; renames = renames-class; found = is.found; good = is.good; on_text_lines = in_text }
