-- What the analysis of a project says of its products, and of a class that gets a new name in them; each law is the contract of a function of this crate.
use Rattle.std.specs.Prelude.{◌≡◌, ℕ, Bool, List, map, IsTrue}
use Rattle.cond_formula.specs.Features.{has}
use Rattle.text_edits.specs.Files.{PlainFile}
use Rattle.c_names.specs.Names.{is_new_name}
use Rattle.c_text.specs.declared.origin.FileToken.{FileToken}
use Rattle.c_text.specs.declared.token.TokenKind.TheVariants.{Name}
use Rattle.c_text.specs.Token.{PlainToken}
use Rattle.c_tree.specs.Trees.{PlainTree}
use Rattle.project_file.specs.declared.projects.Project.{Project}
use Rattle.project_file.specs.Projects.{PlainProject}
use Rattle.project_file.specs.View.{project_view}
use Rattle.cond_scopes.specs.Units.{present_trees}
use Rattle.command_projects.specs.Least.{Nowhere, Somewhere}
use Rattle.renamings.specs.Renamings.{Renaming, is_renamed}
use Rattle.renamed_sources.specs.Projects.{HasItsFiles}
use Rattle.program_occurrences.specs.Classes.{PlainFileToken}
use Rattle.reference_classes.specs.Products.{Product}
use Rattle.reference_classes.specs.Preconditions.{IsFound, in_macro_body, fixed, Breaks}
use Rattle.reference_classes.specs.Renamed.{RenamesClass}
use Rattle.tied_tokens.specs.Tokens.{plain_file_tokens}
use Rattle.tied_tokens.specs.Ties.{plain_declared_name}
use Rattle.changed_forests.specs.Renamed.{is_of_class}
use Rattle.changed_forests.specs.Numbered.{AreSameButSites}
use Rattle.class_touches.specs.Laws.{IsListOf}
use Rattle.told_ties.specs.Ties.{named_seen}
use Rattle.project_analysis.specs.declared.analysis.Analysis.{Analysis}
use Rattle.project_analysis.specs.Analysed.{IsAnalysed}
use Rattle.class_conditions.specs.Laws.{AreParsedAndTold}
use Rattle.class_captures.specs.Captures.{AreWellTold, MayGetName}

-- ---- products

-- In each product the units are parsed, and told by the numbers of their tokens.
abbrev pub AnalysesAreTold : Type 0
AnalysesAreTold =
    (project : Project) (files : List PlainFile) (a : Analysis) → IsAnalysed project files a → (c : List Bool) → Product (project_view project) files c
    → AreParsedAndTold project files a.parsed a.told.numbered.items a.told.units.items c

-- what a configuration sees of the trees whose tokens tell their numbers
abbrev pub numbered_trees : Project → Analysis → List Bool → List PlainTree
numbered_trees project a c = present_trees (has c) project.units.items a.told.numbered.items

-- They are the trees of its program, but for the sites of their tokens.
abbrev pub AnalysesHaveTrees : Type 0
AnalysesHaveTrees =
    (project : Project) (files : List PlainFile) (a : Analysis) → IsAnalysed project files a → (c : List Bool) (product : Product (project_view project) files c)
    → AreSameButSites product.is_program.trees (numbered_trees project a c)

-- They are judged well, and told by the numbers of their tokens and by the names that tokens of files declare.
abbrev pub AnalysesTellWell : Type 0
AnalysesTellWell =
    (project : Project) (files : List PlainFile) (a : Analysis) → HasItsFiles (project_view project) files → IsAnalysed project files a
    → (c : List Bool) → Product (project_view project) files c
    → AreWellTold (has c) project.units.items a.told.numbered.items a.told.units.items (named_seen (has c) (map plain_declared_name a.ties.names.items))

-- ---- a class that gets a new name

-- Where a renaming gives the class of a place a good new name, something is found at the place, and nothing of the class comes out of the body of a
-- macro, the list of its tokens has all declarations of a name in these trees or none, and one old name; with the new one they are written well.
abbrev pub ClassesMayGetNames : Type 0
ClassesMayGetNames =
    (project : Project) (files : List PlainFile) (a : Analysis) → HasItsFiles (project_view project) files → IsAnalysed project files a
    → (place : PlainFileToken) (class : List FileToken) (new : List ℕ) (r : Renaming) → IsListOf (project_view project) files place (plain_file_tokens class)
    → RenamesClass (project_view project) files place new r → IsTrue (is_new_name new) → Somewhere (project_view project) (IsFound (project_view project) files place)
    → Nowhere (project_view project) (Breaks (project_view project) files place r in_macro_body) → (c : List Bool) → Product (project_view project) files c
    → MayGetName class r.old new (numbered_trees project a c)

-- Where nothing of the class is fixed either, an identifier copies a token of the list exactly where the renaming renames it: so trees get the new
-- name at the same identifiers whether it is given to them or to the files.
abbrev pub IdentifiersAreRenamed : Type 0
IdentifiersAreRenamed =
    (project : PlainProject) (files : List PlainFile) → HasItsFiles project files
    → (place : PlainFileToken) (class : List FileToken) (new : List ℕ) (r : Renaming) → IsListOf project files place (plain_file_tokens class)
    → RenamesClass project files place new r → Somewhere project (IsFound project files place) → Nowhere project (Breaks project files place r in_macro_body)
    → Nowhere project (Breaks project files place r fixed) → (token : PlainToken) → token.kind ≡ Name
    → is_of_class class new token ≡ is_renamed r token.origin.file token.origin.span
