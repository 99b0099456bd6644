-- The units of a product are told by what is told of the trees whose tokens tell their numbers.
use Rattle.std.proofs.Common.{◌≡◌, Bool, List, length, sym, ap, subst, ◌∙◌}
use Rattle.std.specs.Prelude.{IsTrue}
use Rattle.std.specs.List.{AllZip}
use Rattle.text_edits.specs.Files.{PlainFile}
use Rattle.cond_formula.specs.Features.{has}
use Rattle.cond_formula.specs.Conditions.{Condition, condition_of, value}
use Rattle.feature_model.specs.ModelView.{admitted}
use Rattle.c_tree.specs.Trees.{PlainTree}
use Rattle.c_tree.specs.ReadingLaws.{TreesAreOne}
use Rattle.choice_trees.specs.declared.trees.Forest.{Forest}
use Rattle.core_meaning.specs.Checking.{Binding, fine}
use Rattle.core_meaning.specs.Linking.{Units, judged_program, IsElaborated}
use Rattle.bindings.specs.Laws.{AreWritten}
use Rattle.plain_pp.specs.Laws.{OutcomesAreOne}
use Rattle.project_file.specs.declared.projects.Project.{Project}
use Rattle.project_file.specs.declared.projects.Unit.{Unit}
use Rattle.project_file.specs.View.{project_view}
use Rattle.project_store.specs.Reads.{names_of}
use Rattle.project_program.specs.Laws.{ProgramsAreOne}
use Rattle.unit_outcomes.specs.Laws.{TokensAreSpelt}
use Rattle.cond_scopes.specs.Units.{present_trees}
use Rattle.project_check.specs.declared.forests.ParsedUnits.{ParsedUnits}
use Rattle.project_check.specs.Parsed.{AreParsed, HaveLeaves}
use Rattle.project_check.proofs.Present.{trees_are_written, trees_are_one}
use Rattle.program_occurrences.specs.Occurrences.{names_of_units}
use Rattle.reference_classes.specs.Products.{Product}
use Rattle.moved_trees.specs.Laws.{UnitsStayUnits}
use Rattle.changed_forests.specs.Numbered.{AreSameButSites, IsNumbered}
use Rattle.changed_forests.specs.Laws.{ChangesAreSeen, NumberingsAreSeen, SitesDontMatter}
use Rattle.told_occurrences.specs.declared.told.ToldUnit.{ToldUnit}
use Rattle.told_occurrences.specs.Units.{AreTold}
use Rattle.told_ties.proofs.Told.{same_trees}
use Rattle.told_units.specs.Units.{UnitsTellNumbers}
use Rattle.project_ties.proofs.Products.{have_trees}
use Rattle.project_analysis.proofs.Numbers.{units_tell}
use Rattle.project_analysis.proofs.Written.{all_written}

-- units with these trees are told, where these are judged well and their tokens tell their numbers
abbrev pub Tells : Condition → List Unit → List Forest → List ToldUnit → Type 0
Tells admits units forests told =
    (c : List Bool) (linked : Units) (js : List Binding) → IsTrue (value (has c) admits) → AreWritten (present_trees (has c) units forests)
    → judged_program (present_trees (has c) units forests) ≡ fine linked js → UnitsTellNumbers (has c) units forests
    → AreTold (has c) units forests (names_of_units (present_trees (has c) units forests)) told

pub tells_these :
    (admits : Condition) (units same : List Unit) (forests others : List Forest) (told : List ToldUnit) → same ≡ units → others ≡ forests → Tells admits same others told
    → Tells admits units forests told
tells_these admits units same forests others told u f h =
    subst (λ (us : List Unit). Tells admits us forests told) u (subst (λ (fs : List Forest). Tells admits same fs told) f h)

module _ (one : ProgramsAreOne) (outcomes : OutcomesAreOne) (only : TreesAreOne) (spelt : TokensAreSpelt) (changed : ChangesAreSeen) (seen : NumberingsAreSeen) (sites : SitesDontMatter)
    (stay : UnitsStayUnits) (project : Project) (files : List PlainFile) (filed : length files ≡ length (names_of (project_view project))) (parsed : ParsedUnits) (numbered : List Forest)
    (told : List ToldUnit) (numbers_are : AllZip IsNumbered parsed.forests.items numbered) (admits : Condition) (model : admits ≡ admitted project.model)
    (are_parsed : (c : List Bool) → IsTrue (value (has c) admits) → AreParsed (has c) project files parsed) (leaves : (c : List Bool) → IsTrue (value (has c) admits) → HaveLeaves (has c) project parsed)
    (tells : Tells admits project.units.items numbered told) (c : List Bool) where
  abbrev sited : List PlainTree
  sited = present_trees (has c) project.units.items numbered

  pub units_told : Product (project_view project) files c → AreTold (has c) project.units.items numbered (names_of_units sited) told
  units_told product =
      let here : IsTrue (value (has c) admits) = ap (value (has c)) model ∙ product.admitted.admitted in
      let trees = present_trees (has c) project.units.items parsed.forests.items in
      let h = have_trees one project files parsed.forests.items c product (value (has c) (condition_of parsed.unread)) (value (has c) (condition_of parsed.treeless)) (are_parsed c here) in
      let same : product.is_program.trees ≡ trees
      = trees_are_one outcomes only (project_view project) files (has c) trees product.is_program.trees h.trees product.is_program.are_trees in
      let elaborated = subst (λ (ts : List PlainTree). IsElaborated ts product.program) same product.is_program.elaborated in
      let alike : AreSameButSites trees sited = sym (same_trees seen (has c) project.units.items parsed.forests.items numbered numbers_are) in
      tells c elaborated.linked elaborated.bindings here
      (all_written stay trees sited alike (trees_are_written spelt (project_view project) files (has c) filed trees h.trees))
      (sites.programs trees sited alike elaborated.linked elaborated.bindings elaborated.judged)
      (units_tell (has c) changed project.units.items parsed.streams.items parsed.forests.items numbered (leaves c here h.well) numbers_are)
