use Rattle.renamed_units.proofs.Units.{units-are-renamed}
use Rattle.renamed_units.proofs.units_are_renamed.Goals as goal

pub returns : goal.returns
returns c =
    units-are-renamed c.parts_are_walked.ensures c.files_break.ensures c.reads_are_walked.ensures c.lines_are_one.ensures c.lines_are_renamed.ensures
    c.texts_have_lines.ensures c.lines_have_parts.ensures c.values_are_decided.ensures c.files_have_misplaced.ensures
