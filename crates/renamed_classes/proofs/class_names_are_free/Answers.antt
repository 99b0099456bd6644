use Rattle.renamed_classes.proofs.OneName.{names-free}
use Rattle.renamed_classes.proofs.class_names_are_free.Goals as goal

pub returns : goal.returns
returns c =
    names-free
    (record {
      tokens = record {
        declared = c.declarations_are_occurrences.ensures;
        sources = c.sources_are_renamed.ensures;
        copied = c.tokens_are_copied.ensures;
        read = c.names_are_read.ensures;
      };
      one = c.lines_are_one.ensures;
      tell = c.places_tell_tokens.ensures;
    }) c.predefined_come_from_bodies.ensures
