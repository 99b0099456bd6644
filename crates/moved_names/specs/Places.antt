-- Trees that are the same but for where their tokens stand.
use Rattle.std.specs.Prelude.{◌≡◌, false, List, map}
use Rattle.text_edits.specs.Span.{PlainSpan}
use Rattle.c_text.specs.declared.origin.Place.TheVariants.{Text}
use Rattle.c_text.specs.Token.{PlainOrigin, PlainToken}
use Rattle.c_tree.specs.Trees.{PlainTree}
use Rattle.moved_programs.specs.Trees.{moved_tree}

abbrev pub no_span : PlainSpan
no_span = record { start = 0; end = 0 }

abbrev pub no_origin : PlainOrigin
no_origin = record { file = 0; span = no_span; place = Text; site = no_span; site_file = 0 }

-- what is left of a token without its place in a file, and so without what stands before it
abbrev pub unplaced : PlainToken → PlainToken
unplaced t = record t { joined = false; origin = no_origin }

-- two trees of one shape, with tokens of the same spellings
abbrev pub SameButPlaces : PlainTree → PlainTree → Type 0
SameButPlaces a b = moved_tree unplaced a ≡ moved_tree unplaced b

abbrev pub AreSameButPlaces : List PlainTree → List PlainTree → Type 0
AreSameButPlaces trees others = map (moved_tree unplaced) trees ≡ map (moved_tree unplaced) others
