-- Refusals of one unit as refusals of all.
use Rattle.std.proofs.Common.{ℕ, Bool, List}
use Rattle.std.specs.List.{Contains}
use Rattle.text_edits.specs.Files.{PlainFile}
use Rattle.c_text.specs.Token.{PlainToken}
use Rattle.project_file.specs.Projects.{PlainProject}
use Rattle.project_program.specs.declared.programs.Stage.TheVariants.{Preprocess, Parse, Types, Link}
use Rattle.project_program.specs.declared.programs.ProgramError.{ProgramError}
use Rattle.project_program.specs.declared.programs.ProgramError.TheVariants.{NotAccepted, Memory}
use Rattle.project_program.specs.Programs.{present_units, WhyNone}
use Rattle.project_program.specs.Steps.{WhyNoTokens, WhyNoTree, WhyNoTrees}

pub unit_refused : (project : PlainProject) (files : List PlainFile) (on : ℕ → Bool) (place : ℕ) (error : ProgramError) → Contains (present_units project on) place → WhyNoTokens project files on place error → WhyNone project files on error
unit_refused project files on place (NotAccepted Preprocess) there why = record { unit = place; present = there; why = why.0; refused = why.1 }
unit_refused project files on place (NotAccepted Parse) there why = absurd why
unit_refused project files on place (NotAccepted Types) there why = absurd why
unit_refused project files on place (NotAccepted Link) there why = absurd why
unit_refused project files on place Memory there why = tt

pub tree_lacked : (units : List (List PlainToken)) (tokens : List PlainToken) (error : ProgramError) → Contains units tokens → WhyNoTree tokens error → WhyNoTrees units error
tree_lacked units tokens (NotAccepted Parse) one why = record { tokens = tokens; one = one; treeless = why }
tree_lacked units tokens (NotAccepted Preprocess) one why = absurd why
tree_lacked units tokens (NotAccepted Types) one why = absurd why
tree_lacked units tokens (NotAccepted Link) one why = absurd why
tree_lacked units tokens Memory one why = tt
