use Rattle.named_classes.proofs.Named.{found-named}
use Rattle.named_classes.proofs.found_are_named.Goals as goal

pub returns : goal.returns
returns c = found-named (record {
  declared = c.declarations_are_occurrences.ensures;
  sources = c.sources_are_renamed.ensures;
  read = c.names_are_read.ensures;
  syntax = c.projects_have_syntax.ensures;
  misplaced = c.files_have_misplaced.ensures;
  have = c.texts_have_lines.ensures;
  one = c.lines_are_one.ensures;
})
