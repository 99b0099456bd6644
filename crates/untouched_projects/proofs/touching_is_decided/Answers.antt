use Rattle.untouched_projects.proofs.Decided.{touching_decided}
use Rattle.untouched_projects.proofs.touching_is_decided.Goals as goal

pub returns : goal.returns
returns c =
    touching_decided (record {
      sources = c.sources_are_renamed.ensures;
      syntax = c.projects_have_syntax.ensures;
      walks = c.parts_are_walked.ensures;
      breaks = c.files_break.ensures;
      one = c.lines_are_one.ensures;
      read = c.reads_are_walked.ensures;
      misplaced = c.files_have_misplaced.ensures;
    })
