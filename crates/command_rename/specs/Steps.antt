-- Models of what the code holds: no part of what the command means.
use Rattle.std.specs.Prelude.{ℕ, List, []}
use Rattle.text_edits.specs.Files.{PlainFile}
use Rattle.project_file.specs.View.{project_view}
use Rattle.project_texts.specs.declared.texts.ProjectText.{ProjectText}
use Rattle.command_promises.specs.Courses.{Course}
use Rattle.project_refactorings.specs.Refactorings.{Refactors, CourseOn}
use Rattle.rename_words.specs.Words.{RenameQuery}
use Rattle.command_rename.specs.Rename.{renaming}

-- the project file that was read
abbrev pub source_of : RenameQuery → ProjectText → PlainFile
source_of q text = record { name = q.project; bytes = text.bytes.items }

-- what is done with the project of the text
abbrev pub OfText : RenameQuery → ProjectText → Course
OfText q text = CourseOn renaming q (source_of q text) (project_view text.project)

-- and with its files, where the file of the place has this number
abbrev pub OfSources : RenameQuery → ProjectText → ℕ → List PlainFile → Course
OfSources q text file sources = Refactors renaming q (source_of q text) (project_view text.project) file sources
