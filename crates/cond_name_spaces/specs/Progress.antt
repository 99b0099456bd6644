-- How names are noted one behind the other.
use Rattle.std.specs.Prelude.{◌≡◌, ℕ, Bool, true, false, List, [], ◌∷◌, ◌++◌, Option, Some, None, IsTrue, if◌then◌else◌}
use Rattle.c_tree.specs.declared.kinds.Kind.{Kind}
use Rattle.c_tree.specs.declared.kinds.Kind.TheVariants as k
use Rattle.c_tree.specs.Trees.{PlainTree, leaf, node}
use Rattle.choice_trees.specs.Leaves.{Leaf}
use Rattle.bindings.specs.Visible.{NameSpace, ordinary, tags, members_of}
use Rattle.bindings.specs.Bindings.{is_name}
use Rattle.scope_readings.specs.Walks.{role, turns}
use Rattle.name_spaces.specs.Spaces.{space_by, spaces_in_node}
use Rattle.cond_name_spaces.specs.declared.entries.Tag.{Tag}
use Rattle.cond_name_spaces.specs.declared.roles.Declares.{Declares}
use Rattle.cond_name_spaces.specs.declared.roles.Declares.TheVariants as d
use Rattle.cond_name_spaces.specs.Spaced.{InSpace, names_among, spaced}

abbrev pub plain_tag : Tag → List ℕ
plain_tag tag = tag.text.items

abbrev pub defines_struct : Kind → Bool
defines_struct k.StructDefinition = true
defines_struct kind = false

-- ---- one name

-- the space of what a name declares, in a struct with this tag
abbrev pub space_of : List ℕ → Declares → Option NameSpace
space_of tag d.Nothing = None
space_of tag d.Ordinary = Some ordinary
space_of tag d.Tag = Some tags
space_of tag d.Member = Some (members_of tag)

abbrev pub one_name : Leaf → Option NameSpace → List InSpace
one_name name None = []
one_name name (Some space) = record { name = name; space = space } ∷ []

abbrev pub member_by : Leaf → Tag → InSpace
member_by name tag = record { name = name; space = members_of (plain_tag tag) }

-- ---- the log

-- Where b, the log goes on by those of the names among these leaves that stand in spaces, whatever stands behind; elsewhere it stays.
pub record Logs (b : Bool) (leaves : List Leaf → List Leaf) (told : List (Option NameSpace) → List (Option NameSpace)) (old new : List InSpace) : Type 0 where
  pub here : IsTrue b → (behind : List Leaf) (rest : List (Option NameSpace))
      → new ++ spaced (names_among behind) rest ≡ old ++ spaced (names_among (leaves behind)) (told rest)
  pub elsewhere : b ≡ false → new ≡ old

abbrev pub followed_by : List (Option NameSpace) → List (Option NameSpace) → List (Option NameSpace)
followed_by spaces rest = spaces ++ rest

-- the spaces of a part's names, and those behind them
abbrev pub spaces_of_part : Kind → List ℕ → Kind → Bool → PlainTree → List (Option NameSpace) → List (Option NameSpace)
spaces_of_part around tag kind turned (leaf token) rest = if is_name token then space_by around tag (role kind turned) ∷ rest else rest
spaces_of_part around tag kind turned (node inner parts) rest = spaces_in_node around tag inner parts ++ rest

abbrev pub turns_at : Kind → PlainTree → Bool
turns_at kind (leaf token) = if is_name token then false else turns kind token
turns_at kind (node inner parts) = false

-- a part, if there is one
abbrev pub spaces_if_any : Kind → List ℕ → Kind → Bool → Option PlainTree → List (Option NameSpace) → List (Option NameSpace)
spaces_if_any around tag kind turned None rest = rest
spaces_if_any around tag kind turned (Some tree) rest = spaces_of_part around tag kind turned tree rest

abbrev pub turns_if_any : Kind → Option PlainTree → Bool
turns_if_any kind None = false
turns_if_any kind (Some tree) = turns_at kind tree
