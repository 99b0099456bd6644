use Rattle.untouched_projects.proofs.Outcomes.{UnitLaws}
use Rattle.untouched_projects.proofs.Trees.{TreeLaws}
use Rattle.untouched_projects.proofs.Products.{programs_kept}
use Rattle.untouched_projects.proofs.untouched_projects_keep_programs.Goals as goal

pub returns : goal.returns
returns c =
    let units : UnitLaws = record {
      alike = c.untouched_units_are_alike.ensures;
      names = c.renamed_are_names.ensures;
      sources = c.sources_are_renamed.ensures;
      outcomes = c.units_have_outcomes.ensures;
      one = c.outcomes_are_one.ensures;
    } in
    let trees : TreeLaws = record {
      units = units;
      trees = c.trees_are_renamed.ensures;
      of_sources = c.trees_are_of_sources.ensures;
      alike = c.untouched_products_are_alike.ensures;
    } in
    programs_kept (record { trees = trees; places = c.places_dont_matter.ensures })
