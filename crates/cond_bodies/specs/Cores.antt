-- Items but for what calls further out change of them.
use Rattle.std.specs.Prelude.{List, map}
use Rattle.c_text.specs.Macros as spec

-- An item as each further call leaves it: calls further out give it another site, and its place is one in a call.
abbrev pub core : spec.Item → spec.Item
core item = record {
  token = record item.token {
    origin = record {
      file = item.token.origin.file;
      span = item.token.origin.span;
      place = spec.in_call item.token.origin.place;
      site = record { start = 0; end = 0 };
      site_file = 0;
    };
  };
  kept = item.kept;
}

-- the same items, but for what calls further out change of them
abbrev pub cores : List spec.Item → List spec.Item
cores items = map core items
