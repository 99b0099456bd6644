-- LAWS, each the contract of a function of this crate.
use Rattle.std.specs.Prelude.{◌≡◌}
use Rattle.text_edits.specs.Files.{Lookup}
use Rattle.command_promises.specs.Courses.{Saying, says}
use Rattle.command_promises.specs.Writing.{PutsAll}
use Rattle.command_outcomes.specs.Concluding.{ComesOver}
use Rattle.project_refactorings.specs.Laws.{RefactoringsConclude}
use Rattle.rename_words.specs.Words.{RenameQuery, IsGood}
use Rattle.command_rename.specs.Rename.{renaming, rename}
use Rattle.command_rename.specs.Products.{ProductsAreKept}

-- a renaming comes to something, whatever the files hold
abbrev pub RenameConcludes : Type 0
RenameConcludes = RefactoringsConclude renaming

-- THE HEADLINE, for `rename`: what is written where it answers 0 keeps the products of the project that was read.
abbrev pub RenamingsThatAreWrittenKeepProducts : Type 0
RenamingsThatAreWrittenKeepProducts =
    (q : RenameQuery) (before after : Lookup) (what : Saying) → IsGood q → ComesOver (rename.Does q) before (says what) → what.status ≡ 0
    → PutsAll before what.written after → ProductsAreKept q before after
