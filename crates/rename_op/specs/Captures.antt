-- What the trees of a product tell of a renaming of the project's files; the law is the contract of a function of this crate.
use Rattle.std.specs.Prelude.{◌≡◌, ◌↔◌, Bool, List, All}
use Rattle.text_edits.specs.Files.{PlainFile}
use Rattle.cond_formula.specs.Features.{has}
use Rattle.c_text.specs.declared.origin.FileToken.{FileToken}
use Rattle.c_text.specs.declared.token.TokenKind.TheVariants.{Name}
use Rattle.c_text.specs.Token.{PlainToken}
use Rattle.c_tree.specs.Trees.{PlainTree}
use Rattle.moved_programs.specs.Trees.{tokens_of}
use Rattle.project_file.specs.Projects.{PlainProject}
use Rattle.renamings.specs.Renamings.{Renaming, is_renamed}
use Rattle.reference_classes.specs.Products.{Product}
use Rattle.reference_classes.specs.Preconditions.{IsCaptured}
use Rattle.changed_forests.specs.Renamed.{is_of_class}
use Rattle.changed_forests.specs.Numbered.{AreSameButSites}
use Rattle.class_captures.specs.Captures.{AreCaptured}
use Rattle.renamed_sources.specs.Projects.{HasItsFiles}
use Rattle.renamed_projects.specs.Projects.{MayBeRenamedIn}

-- an identifier is a copy of a token of the class exactly if it is one of a renamed token
abbrev pub IsRenamedByBoth : List FileToken → Renaming → PlainToken → Type 0
IsRenamedByBoth class r token = token.kind ≡ Name → is_of_class class r.new token ≡ is_renamed r token.origin.file token.origin.span

-- The class is just what the renaming gives its new name in these trees.
abbrev pub RenamesJust : List FileToken → Renaming → List PlainTree → Type 0
RenamesJust class r trees = All (IsRenamedByBoth class r) (tokens_of trees)

-- Where a renaming may be made in a configuration that is accepted, it captures something there exactly where the renaming of the class does in the
-- trees of its units, whatever the sites of their tokens: with the new name they have no core program, or bind or link some identifier otherwise.
abbrev pub CapturesAreOfTrees : Type 0
CapturesAreOfTrees =
    (project : PlainProject) (files : List PlainFile) (r : Renaming) (c : List Bool) (class : List FileToken) (trees : List PlainTree) (before : Product project files c)
    → HasItsFiles project files → MayBeRenamedIn project files (has c) r → AreSameButSites trees before.is_program.trees
    → RenamesJust class r before.is_program.trees → AreCaptured class r.new trees ↔ IsCaptured project files r c
