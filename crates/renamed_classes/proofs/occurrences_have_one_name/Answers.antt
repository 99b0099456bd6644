use Rattle.renamed_classes.proofs.OneName.{occurrences-one-name}
use Rattle.renamed_classes.proofs.occurrences_have_one_name.Goals as goal

pub returns : goal.returns
returns c =
    occurrences-one-name
    (record {
      tokens = record {
        declared = c.declarations_are_occurrences.ensures;
        sources = c.sources_are_renamed.ensures;
        copied = c.tokens_are_copied.ensures;
        read = c.names_are_read.ensures;
      };
      one = c.lines_are_one.ensures;
      tell = c.places_tell_tokens.ensures;
    }) c.tokens_are_spelt.ensures c.brought_are_named_alike.ensures
