-- What an analysis says of the trees of a product.
use Rattle.std.proofs.Common.{◌≡◌, Bool, List, map, sym, ap, ◌∙◌}
use Rattle.text_edits.specs.Files.{PlainFile}
use Rattle.cond_formula.specs.Features.{has}
use Rattle.cond_formula.specs.Conditions.{condition_of, value}
use Rattle.c_text.specs.Token.{PlainToken}
use Rattle.c_tree.specs.Trees.{PlainTree}
use Rattle.c_tree.specs.ReadingLaws.{TreesAreOne}
use Rattle.plain_pp.specs.Laws.{OutcomesAreOne}
use Rattle.project_file.specs.declared.projects.Project.{Project}
use Rattle.project_file.specs.View.{project_view}
use Rattle.project_program.specs.Laws.{ProgramsAreOne}
use Rattle.unit_outcomes.specs.Laws.{TokensAreSpelt}
use Rattle.cond_scopes.specs.Units.{present_trees}
use Rattle.project_check.proofs.Present.{trees_are_written, trees_are_one}
use Rattle.program_occurrences.specs.Occurrences.{names_of_units}
use Rattle.reference_classes.specs.Products.{Product}
use Rattle.renamed_classes.proofs.Given.{is-given}
use Rattle.moved_programs.specs.Trees.{moved_tree}
use Rattle.moved_trees.specs.Laws.{UnitsStayUnits}
use Rattle.changed_forests.specs.Renamed.{is_name}
use Rattle.changed_forests.specs.Numbered.{unsited, AreSameButSites}
use Rattle.changed_forests.specs.Laws.{ChangesAreSeen, NumberingsAreSeen, SitesDontMatter}
use Rattle.sited_names.specs.Laws.{SitesDontName, SitesDontTie}
use Rattle.told_ties.specs.Laws.{TiesAreSeen}
use Rattle.told_ties.proofs.Told.{same_trees}
use Rattle.project_ties.specs.Projects.{tied_tokens_of}
use Rattle.project_ties.proofs.Products.{have_trees}
use Rattle.project_analysis.proofs.Numbers.{units_tell}
use Rattle.project_analysis.proofs.Written.{all_written}
use Rattle.class_captures.specs.Laws.{HaveNames}
use Rattle.rename_op.specs.Analysed.{AnalysesAreTold, numbered_trees, AnalysesHaveTrees, AnalysesTellWell}
use Rattle.rename_op.proofs.Like.{like_in_trees}

pub are_told : AnalysesAreTold
are_told project files a is c product =
    let told = is.told c product in
    record { are_parsed = told.are_parsed; have_leaves = told.have_leaves; are_numbered = is.numbered; are_told = told.units }

pub trees_are : ProgramsAreOne → OutcomesAreOne → TreesAreOne → NumberingsAreSeen → AnalysesHaveTrees
trees_are one outcomes only seen project files a is c product =
    let forests = a.parsed.forests.items in
    let trees = present_trees (has c) project.units.items forests in
    let h = have_trees one project files forests c product (value (has c) (condition_of a.parsed.unread)) (value (has c) (condition_of a.parsed.treeless)) (is.told c product).are_parsed in
    let same : product.is_program.trees ≡ trees
    = trees_are_one outcomes only (project_view project) files (has c) trees product.is_program.trees h.trees product.is_program.are_trees in
    ap (map (moved_tree unsited)) same ∙ sym (same_trees seen (has c) project.units.items forests a.told.numbered.items is.numbered)

-- the laws by which they are told well
pub record TellingLaws : Type 0 where
  pub one : ProgramsAreOne
  pub spelt : TokensAreSpelt
  pub changed : ChangesAreSeen
  pub sites : SitesDontMatter
  pub names : SitesDontName
  pub ties : SitesDontTie
  pub seen : TiesAreSeen
  pub stay : UnitsStayUnits
  pub trees : AnalysesHaveTrees

-- identifiers are names, since those of the program are
have_names : SitesDontName → (project : Project) (files : List PlainFile) (c : List Bool) (product : Product (project_view project) files c) (others : List PlainTree)
    → AreSameButSites product.is_program.trees others → HaveNames (names_of_units others)
have_names sites project files c product others same o =
    let like = like_in_trees sites product.is_program.trees others same o in
    let kind : like.found.occurrence.identifier.token.kind ≡ o.occurrence.identifier.token.kind = ap (λ (t : PlainToken). t.kind) like.same in
    ap is_name (sym kind ∙ (is-given product like.found).is_name)

pub tell_well : TellingLaws → AnalysesTellWell
tell_well laws project files a there is c product =
    let told = is.told c product in
    let trees = product.is_program.trees in
    let seen = numbered_trees project a c in
    let elaborated = product.is_program.elaborated in
    let same = laws.trees project files a is c product in
    let h = have_trees laws.one project files a.parsed.forests.items c product (value (has c) (condition_of a.parsed.unread)) (value (has c) (condition_of a.parsed.treeless)) told.are_parsed in
    record {
      linked = elaborated.linked;
      bindings = elaborated.bindings;
      judged = laws.sites.programs trees seen same elaborated.linked elaborated.bindings elaborated.judged;
      written = all_written laws.stay trees seen same
          (trees_are_written laws.spelt (project_view project) files (has c) there.one_each trees product.is_program.are_trees);
      are_names = have_names laws.names project files c product seen same;
      numbers = units_tell (has c) laws.changed project.units.items a.parsed.streams.items a.parsed.forests.items a.told.numbered.items (told.have_leaves h.well) is.numbered;
      are_told = told.units;
      names = λ token name.
          let visible = laws.seen.names_are (tied_tokens_of project a.ties) c token name in
          let declared = is.ties.names c product token name in
          let alike = (laws.ties trees seen same).named token name in
          (λ h. alike.0 (declared.0 (visible.1 h)), λ d. visible.0 (declared.1 (alike.1 d)));
    }
