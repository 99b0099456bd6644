-- Tags among words (ISO/IEC 9899:2011, 6.7.2.3), and how far a search for one has come.
use Rattle.std.specs.Prelude.{ℕ, Bool, true, false, ◌&&◌, ◌||◌, List, Option, Some, None}
use Rattle.std.specs.Str.{bytes_eq}
use Rattle.cond_formula.specs.Conditions.{value, condition_of}
use Rattle.c_text.specs.Token.{PlainToken}
use Rattle.c_tree.specs.declared.kinds.Kind.{Kind}
use Rattle.c_tree.specs.declared.kinds.Kind.TheVariants.{StructDefinition}
use Rattle.c_tree.specs.Trees.{PlainTree, PlainTrees, leaf, node, none, more, trees}
use Rattle.conditional.specs.Entries.{seen}
use Rattle.declarator_lists.specs.Entries.{entries_at}
use Rattle.core_meaning.specs.Declarations.{name_in}
use Rattle.cond_units.specs.declared.tags.Word.{Word}
use Rattle.cond_units.specs.declared.tags.Word.TheVariants.{Tag, Other, Passed}
use Rattle.cond_units.specs.declared.tags.Search.{Search}
use Rattle.cond_units.specs.declared.behind.ItemsBehind.{ItemsBehind}

-- a name that is this tag
abbrev pub is_tag : List ℕ → Option PlainToken → Bool
is_tag tag None = false
is_tag tag (Some name) = bytes_eq name.text tag

-- the first name among words is this tag
abbrev pub has_tag : List ℕ → PlainTrees → Bool
has_tag tag words = is_tag tag (name_in words)

-- the words of a part have this tag
abbrev pub part_has_tag : List ℕ → PlainTree → Bool
part_has_tag tag (leaf token) = false
part_has_tag tag (node kind words) = has_tag tag words

-- the first of some parts has this tag
abbrev pub first_has_tag : List ℕ → PlainTrees → Bool
first_has_tag tag none = false
first_has_tag tag (more first rest) = part_has_tag tag first

abbrev pub is_struct_definition : Kind → Bool
is_struct_definition StructDefinition = true
is_struct_definition kind = false

-- what comes of words that begin so
abbrev pub comes : Word → Bool → Bool
comes Tag behind = true
comes Other behind = false
comes Passed behind = behind

-- what comes of a search, where this comes of what it hasn't seen yet
abbrev pub ends : (ℕ → Bool) → Search → Bool → Bool
ends on search behind = value on (condition_of search.found) || (value on (condition_of search.left) && behind)

-- the items behind a place, as a configuration sees them
abbrev pub items_at : (ℕ → Bool) → ItemsBehind → PlainTrees
items_at on behind = trees (seen on (entries_at on behind.items.now))
