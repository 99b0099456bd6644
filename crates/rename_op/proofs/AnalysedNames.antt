-- A class that is renamed may get its new name in the trees of an analysis.
use Rattle.std.proofs.Common.{◌≡◌, ℕ, Bool, true, List, sym, ap, subst, ◌∙◌}
use Rattle.text_edits.specs.Files.{PlainFile}
use Rattle.c_text.specs.declared.origin.FileToken.{FileToken}
use Rattle.c_text.specs.Token.{PlainToken}
use Rattle.c_tree.specs.Trees.{PlainTree}
use Rattle.project_file.specs.Projects.{PlainProject}
use Rattle.project_file.specs.View.{project_view}
use Rattle.command_projects.specs.Least.{Nowhere, Somewhere}
use Rattle.renamings.specs.Renamings.{Renaming}
use Rattle.renamed_sources.specs.Projects.{HasItsFiles}
use Rattle.program_occurrences.specs.Occurrences.{names_of_units, OccursIn}
use Rattle.program_occurrences.specs.Classes.{PlainFileToken, copied_by, file_token}
use Rattle.program_occurrences.specs.Laws.{DeclarationsAreOccurrences, TokensBringBack}
use Rattle.reference_classes.specs.Products.{Product, InClass}
use Rattle.reference_classes.specs.Preconditions.{IsFound, in_macro_body, Breaks}
use Rattle.reference_classes.specs.Renamed.{RenamesClass}
use Rattle.renamed_classes.specs.Laws.{OccurrencesHaveOneName}
use Rattle.tied_tokens.specs.Tokens.{plain_file_tokens}
use Rattle.moved_trees.specs.Laws.{UnitsStayUnits}
use Rattle.changed_forests.specs.Renamed.{is_of_class}
use Rattle.changed_forests.specs.Numbered.{AreSameButSites}
use Rattle.sited_names.specs.Laws.{SitesDontName, SitesDontTie}
use Rattle.linked_otherwise.specs.Otherwise.{AreWrittenSo, AreRenamedTogether}
use Rattle.linked_otherwise.specs.Laws.{ClosedAreRenamedTogether}
use Rattle.class_touches.specs.Laws.{IsListOf}
use Rattle.class_occurrences.specs.Laws.{TestsAreOfPreconditions}
use Rattle.class_captures.specs.Laws.{HaveNames}
use Rattle.rename_op.specs.Analysed.{numbered_trees, AnalysesHaveTrees, AnalysesTellWell, ClassesMayGetNames}
use Rattle.rename_op.proofs.Like.{like_in_trees}
use Rattle.rename_op.proofs.Members.{of_class_in, in_of_class}
use Rattle.rename_op.proofs.Brought.{brought_along}
use Rattle.rename_op.proofs.NewName.{renamed_written}

-- the laws that it follows from
pub record NamingLaws : Type 0 where
  pub declared : DeclarationsAreOccurrences
  pub back : TokensBringBack
  pub names : SitesDontName
  pub ties : SitesDontTie
  pub stay : UnitsStayUnits
  pub tests : TestsAreOfPreconditions
  pub closed : ClosedAreRenamedTogether
  pub one_name : OccurrencesHaveOneName
  pub trees : AnalysesHaveTrees
  pub tell_well : AnalysesTellWell

module _ (laws : NamingLaws) (project : PlainProject) (files : List PlainFile) (there : HasItsFiles project files) (place : PlainFileToken) (class : List FileToken) (new : List ℕ)
    (r : Renaming) (lists : IsListOf project files place (plain_file_tokens class)) (renames : RenamesClass project files place new r)
    (found : Somewhere project (IsFound project files place)) (unhindered : Nowhere project (Breaks project files place r in_macro_body))
    (c : List Bool) (product : Product project files c) (trees : List PlainTree) (same : AreSameButSites product.is_program.trees trees) where
  abbrev Member : PlainFileToken → Type 0
  Member token = InClass project files place token

  members : (t : PlainToken) → is_of_class class new t ≡ true → Member (copied_by t)
  members t h = of_class_in laws.tests class new project files place lists t h

  together : HaveNames (names_of_units trees) → AreRenamedTogether (is_of_class class new) (names_of_units trees)
  together are_names = laws.closed (is_of_class class new) (names_of_units trees) (record {
    closed = λ o p brings h.
        in_of_class laws.tests class new project files place lists p.occurrence.identifier.token (are_names p)
        (brought_along laws.declared laws.back project files place c product trees (laws.ties product.is_program.trees trees same) brings
        (members o.occurrence.identifier.token h));
  })

  text_is : (o : OccursIn (names_of_units trees)) → is_of_class class new o.occurrence.identifier.token ≡ true → o.occurrence.identifier.token.text ≡ r.old
  text_is o h =
      let like = like_in_trees laws.names product.is_program.trees trees same o in
      let token : file_token like.found.occurrence ≡ file_token o.occurrence = ap copied_by like.same in
      let text : like.found.occurrence.identifier.token.text ≡ o.occurrence.identifier.token.text = ap (λ (t : PlainToken). t.text) like.same in
      sym text
      ∙ laws.one_name project files place new r there renames found unhindered c product like.found (subst Member (sym token) (members o.occurrence.identifier.token h))

  one_name : AreWrittenSo (is_of_class class new) r.old (names_of_units trees)
  one_name = record { written = text_is }

pub may_get_names : NamingLaws → ClassesMayGetNames
may_get_names laws project files a there is place class new r lists renames good found unhindered c product =
    let trees = numbered_trees project a c in
    let same = laws.trees project files a is c product in
    let told = laws.tell_well project files a there is c product in
    record {
      together = together laws (project_view project) files there place class new r lists renames found unhindered c product trees same told.are_names;
      one_name = one_name laws (project_view project) files there place class new r lists renames found unhindered c product trees same;
      written = renamed_written class new good laws.stay trees told.written;
    }
