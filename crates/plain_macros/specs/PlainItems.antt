use Rattle.std.specs.Prelude.{List, Option, Some, None}
use Rattle.text_edits.specs.Span.{plain_span}
use Rattle.c_text.specs.declared.token.Token.{Token}
use Rattle.c_text.specs.Token.{PlainToken}
use Rattle.c_text.specs.Macros as spec
use Rattle.plain_macros.specs.declared.items.Item.{Item}
use Rattle.plain_macros.specs.declared.items.Source.{Source}
use Rattle.plain_macros.specs.declared.items.Source.TheVariants as source

abbrev pub source_token : Source → Token
source_token (source.Body token) = token.now
source_token (source.List token) = token.now

-- an item with its token's bytes as a list
unfoldable pub plain_item : Item → spec.Item
plain_item item = record {
  token = record {
    kind = (source_token item.source).kind;
    text = (source_token item.source).text.items;
    joined = (source_token item.source).joined;
    origin = record {
      file = (source_token item.source).origin.file;
      span = plain_span (source_token item.source).origin.span;
      place = item.place;
      site = record { start = item.site.start; end = item.site.end };
      site_file = item.site.file;
    };
  };
  kept = item.kept;
}

abbrev pub item_token : Item → PlainToken
item_token item = (plain_item item).token

abbrev pub argument_or : List spec.Item → Option (List spec.Item) → List spec.Item
argument_or other None = other
argument_or other (Some argument) = argument
