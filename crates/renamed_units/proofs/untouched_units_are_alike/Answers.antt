use Rattle.renamed_units.proofs.Units.{untouched-units-are-alike}
use Rattle.renamed_units.proofs.untouched_units_are_alike.Goals as goal

pub returns : goal.returns
returns c =
    untouched-units-are-alike c.parts_are_walked.ensures c.files_break.ensures c.reads_are_walked.ensures c.lines_are_one.ensures c.lines_are_renamed.ensures
    c.texts_have_lines.ensures c.lines_have_parts.ensures c.values_are_decided.ensures c.files_have_misplaced.ensures
    c.tokens_come_from_active.ensures
