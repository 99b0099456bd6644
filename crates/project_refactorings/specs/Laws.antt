-- What follows for a command that refactors.
use Rattle.std.specs.declared.alloc.Global.{Global}
use Rattle.text_edits.specs.Files.{Lookup}
use Rattle.command_outcomes.specs.Concluding.{Concludes}
use Rattle.project_refactorings.specs.Refactorings.{RefactoringCommand, Does}

-- each of its courses comes to something
abbrev pub RefactoringsConclude : RefactoringCommand → Type 0
RefactoringsConclude command = (alloc : Global) (q : command.Query) (held : Lookup) → Concludes (Does command q) held
