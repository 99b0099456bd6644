use Rattle.renamed_classes.proofs.TextLines.{stand-in-files}
use Rattle.renamed_classes.proofs.classes_stand_in_files.Goals as goal

pub returns : goal.returns
returns c = stand-in-files (record {
  declared = c.declarations_are_occurrences.ensures;
  sources = c.sources_are_renamed.ensures;
  copied = c.tokens_are_copied.ensures;
  read = c.names_are_read.ensures;
})
