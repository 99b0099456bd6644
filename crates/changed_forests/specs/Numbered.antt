-- Tokens that tell their numbers in the unit's stream, so that two copies of one token of a file are told apart: the place of the macro call that
-- brings a token, which no judgement looks at, is taken for the number.
use Rattle.std.specs.Prelude.{◌≡◌, ℕ, List, map}
use Rattle.text_edits.specs.Span.{PlainSpan}
use Rattle.c_text.specs.Token.{PlainToken}
use Rattle.c_tree.specs.Trees.{PlainTree}
use Rattle.choice_trees.specs.declared.trees.Forest.{Forest}
use Rattle.moved_programs.specs.Trees.{moved_tree}
use Rattle.changed_forests.specs.Changed.{Change, IsChanged}

abbrev pub empty_at : ℕ → PlainSpan
empty_at offset = record { start = offset; end = offset }

abbrev pub sited : PlainSpan → ℕ → PlainToken → PlainToken
sited site file t = record t { origin = record t.origin { site = site; site_file = file } }

-- the number is where the site begins and ends, in the first file
abbrev pub numbering : Change
numbering number t = sited (empty_at number) 0 t

abbrev pub number_of : PlainToken → ℕ
number_of t = t.origin.site.start

abbrev pub IsNumbered : Forest → Forest → Type 0
IsNumbered old new = IsChanged numbering old new

-- ---- what is left of trees without sites

abbrev pub unsited : PlainToken → PlainToken
unsited t = sited (empty_at 0) 0 t

-- the trees are the same but for the sites of their tokens
abbrev pub SameButSites : PlainTree → PlainTree → Type 0
SameButSites a b = moved_tree unsited a ≡ moved_tree unsited b

abbrev pub AreSameButSites : List PlainTree → List PlainTree → Type 0
AreSameButSites trees others = map (moved_tree unsited) trees ≡ map (moved_tree unsited) others
