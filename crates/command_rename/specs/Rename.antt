-- The command `rename PROJECT FILE@OFFSET NEW OUT`: what stands at a place gets a new name in all products of a project.
use Rattle.std.specs.Prelude.{ℕ, List, map, codes}
use Rattle.std.specs.Str.{bytes_eq}
use Rattle.text_edits.specs.Files.{PlainFile}
use Rattle.command_promises.specs.Commands.{Command}
use Rattle.project_refactorings.specs.Refactorings.{RefactoringCommand, command_of}
use Rattle.renamings.specs.Renamings.{Renaming, renamed_files}
use Rattle.reference_classes.specs.Preconditions.{precondition_name, preconditions, BreaksNamed}
use Rattle.reference_classes.specs.Renamed.{report_of}
use Rattle.named_classes.specs.Classes.{NamedClass, Finds, IsNamedClass}
use Rattle.rename_op.specs.Outcomes.{renaming_to}
use Rattle.rename_words.specs.Words.{RenameQuery, Asks}
use Rattle.rename_words.specs.Fits.{Fits}

-- the class with the new name that the words give it
abbrev pub renaming_for : RenameQuery → List PlainFile → NamedClass → Renaming
renaming_for q sources = renaming_to sources q.new

-- The task is the class of the token at the place; where the words fit the project, they say which of its files that is in.
abbrev pub renaming : RefactoringCommand
renaming = record {
  word = codes "rename";
  Query = RenameQuery;
  Asks = Asks;
  project_of = λ q. q.project;
  out_of = λ q. q.out;
  Fit = ℕ;
  Fits = Fits;
  Finds = λ q project file sources. Finds project sources file q.offset;
  Task = NamedClass;
  IsTask = λ q project file sources. IsNamedClass project sources file q.offset;
  is_new_name_old = λ q class. bytes_eq class.old q.new;
  preconditions = map precondition_name preconditions;
  Breaks = λ q project sources class. BreaksNamed project sources class.place (renaming_for q sources class);
  report = λ q sources class. report_of (renaming_for q sources class) sources;
  result = λ q sources class. renamed_files (renaming_for q sources class) 0 sources;
}

abbrev pub rename : Command
rename = command_of renaming
