-- The occurrences of a product's units are those of the trees that are parsed.
use Rattle.std.proofs.Common.{◌≡◌, Bool, List, sym, subst}
use Rattle.std.specs.Prelude.{◌↔◌, IsTrue}
use Rattle.text_edits.specs.Files.{PlainFile}
use Rattle.cond_formula.specs.Features.{has}
use Rattle.cond_formula.specs.Conditions.{condition_of, value}
use Rattle.c_text.specs.declared.origin.FileToken.{FileToken}
use Rattle.c_tree.specs.Trees.{PlainTree}
use Rattle.c_tree.specs.ReadingLaws.{TreesAreOne}
use Rattle.choice_trees.specs.declared.trees.Forest.{Forest}
use Rattle.plain_pp.specs.Laws.{OutcomesAreOne}
use Rattle.project_file.specs.declared.projects.Project.{Project}
use Rattle.project_file.specs.View.{project_view}
use Rattle.project_program.specs.Laws.{ProgramsAreOne}
use Rattle.cond_scopes.specs.Units.{present_trees}
use Rattle.project_check.specs.declared.forests.ParsedUnits.{ParsedUnits}
use Rattle.project_check.proofs.Present.{trees_are_one}
use Rattle.program_occurrences.specs.Occurrences.{Occurrence, names_of_units}
use Rattle.program_occurrences.specs.Classes.{PlainFileToken}
use Rattle.reference_classes.specs.Products.{Product, names_in}
use Rattle.reference_classes.specs.Preconditions.{SomeOccurrence, ComesFromMacroBody, IsFixed}
use Rattle.tied_tokens.specs.Tokens.{plain_file_tokens}
use Rattle.class_touches.specs.Laws.{IsListOf}
use Rattle.class_occurrences.specs.Occurring.{Occurring, comes_from_macro_body, is_fixed_of}
use Rattle.class_occurrences.specs.Laws.{tokens_of, IsOfClassAnd, TestsAreOfPreconditions}
use Rattle.told_occurrences.specs.declared.told.ToldUnit.{ToldUnit}
use Rattle.project_ties.proofs.Products.{have_trees}
use Rattle.class_conditions.specs.Told.{some_unit_passes}
use Rattle.class_conditions.specs.Laws.{OccursAnd, ToldPassAsOccurrences, AreParsedAndTold, ConditionsTellPreconditions}

module _ (one : ProgramsAreOne) (outcomes : OutcomesAreOne) (only : TreesAreOne) (pass : ToldPassAsOccurrences) (project : Project) (files : List PlainFile) (parsed : ParsedUnits)
    (numbered : List Forest) (told : List ToldUnit) (c : List Bool) (are : AreParsedAndTold project files parsed numbered told c) where
  abbrev trees : List PlainTree
  trees = present_trees (has c) project.units.items parsed.forests.items

  -- the trees of the program are those that are parsed
  trees_of : (product : Product (project_view project) files c) → product.is_program.trees ≡ trees
  trees_of product =
      let h = have_trees one project files parsed.forests.items c product (value (has c) (condition_of parsed.unread)) (value (has c) (condition_of parsed.treeless)) are.are_parsed in
      trees_are_one outcomes only (project_view project) files (has c) trees product.is_program.trees h.trees product.is_program.are_trees

  told_passes :
      Product (project_view project) files c → (test : Occurring → Bool)
      → IsTrue (some_unit_passes (has c) test parsed.streams.items told) ↔ OccursAnd (names_of_units trees) (λ o. IsTrue (test (tokens_of o)))
  told_passes product test =
      let h = have_trees one project files parsed.forests.items c product (value (has c) (condition_of parsed.unread)) (value (has c) (condition_of parsed.treeless)) are.are_parsed in
      pass (has c) project.units.items parsed.streams.items parsed.forests.items numbered told (are.have_leaves h.well) are.are_numbered are.are_told test

  module _ (place : PlainFileToken) (class : List FileToken) (lists : IsListOf (project_view project) files place (plain_file_tokens class)) (Holds : Occurrence → Type 0)
      (test : Occurring → Bool) (asks : (o : Occurrence) → IsTrue (test (tokens_of o)) ↔ IsOfClassAnd class Holds o) where
    some_in_product :
        (product : Product (project_view project) files c) → OccursAnd (names_in product) (λ o. IsTrue (test (tokens_of o)))
        → SomeOccurrence (project_view project) files place c Holds
    some_in_product product h =
        let is = (asks h.found.occurrence).0 h.holds in
        record { product = product; found = h.found; member = (lists _).0 is.member; holds = is.holds }

    some_in_units : (h : SomeOccurrence (project_view project) files place c Holds) → OccursAnd (names_in h.product) (λ o. IsTrue (test (tokens_of o)))
    some_in_units h = record { found = h.found; holds = (asks h.found.occurrence).1 (record { member = (lists _).1 h.member; holds = h.holds }) }

    pub tells : Product (project_view project) files c → IsTrue (some_unit_passes (has c) test parsed.streams.items told) ↔ SomeOccurrence (project_view project) files place c Holds
    tells product = (
      λ h. some_in_product product
          (subst (λ (ts : List PlainTree). OccursAnd (names_of_units ts) (λ o. IsTrue (test (tokens_of o)))) (sym (trees_of product)) ((told_passes product test).0 h)),
      λ h. (told_passes product test).1
          (subst (λ (ts : List PlainTree). OccursAnd (names_of_units ts) (λ o. IsTrue (test (tokens_of o)))) (trees_of h.product) (some_in_units h)),
    )

pub conditions_tell : ProgramsAreOne → OutcomesAreOne → TreesAreOne → TestsAreOfPreconditions → ToldPassAsOccurrences → ConditionsTellPreconditions
conditions_tell one outcomes only tests pass project files parsed numbered told c product are place class lists = record {
  in_macro_body = tells one outcomes only pass project files parsed numbered told c are place class lists ComesFromMacroBody (comes_from_macro_body class) (tests.macro_bodies class) product;
  fixed = tells one outcomes only pass project files parsed numbered told c are place class lists IsFixed (is_fixed_of class) (tests.fixed class) product;
}
