-- Structs that the unit completes behind a place.
use Rattle.std.specs.Prelude.{ℕ, Bool, false, List, Option, Some, None}
use Rattle.std.specs.Str.{bytes_eq}
use Rattle.c_text.specs.Token.{PlainToken}
use Rattle.c_tree.specs.Trees.{PlainTree, PlainTrees, leaf, node, none, more}
use Rattle.core_meaning.specs.Declarations.{name_in}

abbrev pub is_name : List ℕ → Option PlainToken → Bool
is_name tag None = false
is_name tag (Some name) = bytes_eq name.text tag

abbrev pub names_tag : List ℕ → PlainTree → Bool
names_tag tag (leaf token) = false
names_tag tag (node kind words) = is_name tag (name_in words)

abbrev pub first_names : List ℕ → PlainTrees → Bool
first_names tag none = false
first_names tag (more first rest) = names_tag tag first
