use Rattle.untouched_projects.proofs.Outcomes.{outcomes_kept}
use Rattle.untouched_projects.proofs.untouched_units_keep_outcomes.Goals as goal

pub returns : goal.returns
returns c =
    outcomes_kept (record {
      alike = c.untouched_units_are_alike.ensures;
      names = c.renamed_are_names.ensures;
      sources = c.sources_are_renamed.ensures;
      outcomes = c.units_have_outcomes.ensures;
      one = c.outcomes_are_one.ensures;
    })
