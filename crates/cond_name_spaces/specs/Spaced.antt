-- The identifiers of a forest that may declare what units have in common, where `on` says which features are on.
use Rattle.std.specs.Prelude.{ℕ, Bool, List, [], ◌∷◌, Option, Some, None, if◌then◌else◌}
use Rattle.c_text.specs.Token.{PlainToken, plain_token}
use Rattle.bindings.specs.Visible.{NameSpace, ordinary, tags, members_of}
use Rattle.bindings.specs.Bindings.{is_name}
use Rattle.choice_trees.specs.declared.trees.Forest.{Forest}
use Rattle.choice_trees.specs.ChoiceTrees.{forest_at}
use Rattle.choice_trees.specs.Leaves.{Leaf, forest_leaves}
use Rattle.name_spaces.specs.Spaces.{spaces_of}
use Rattle.cond_name_spaces.specs.declared.entries.Space.{Space}
use Rattle.cond_name_spaces.specs.declared.entries.Space.TheVariants as space
use Rattle.cond_name_spaces.specs.declared.entries.SpacedName.{SpacedName}

-- an identifier, and the name space in which it stands
pub record InSpace : Type 0 where
  -- its token, with its number in the unit's stream
  pub name : Leaf
  pub space : NameSpace

abbrev pub plain_space : Space → NameSpace
plain_space space.Ordinary = ordinary
plain_space space.Tags = tags
plain_space (space.MembersOf tag) = members_of tag.items

abbrev pub numbered : ℕ → PlainToken → Leaf
numbered number token = record { number = Some number; text = token }

abbrev pub plain_name : SpacedName → InSpace
plain_name n = record { name = numbered n.number (plain_token n.token); space = plain_space n.space }

-- the identifiers among leaves
abbrev pub names_among : List Leaf → List Leaf
names_among [] = []
names_among (leaf ∷ rest) = if is_name leaf.text then leaf ∷ names_among rest else names_among rest

-- those that stand in a name space, if these are the ones in which they do
abbrev pub spaced : List Leaf → List (Option NameSpace) → List InSpace
spaced [] spaces = []
spaced (name ∷ names) [] = []
spaced (name ∷ names) (None ∷ spaces) = spaced names spaces
spaced (name ∷ names) (Some space ∷ spaces) = record { name = name; space = space } ∷ spaced names spaces

-- the identifiers of the unit's tree that stand in name spaces, in the order of the text
abbrev pub spaces_at : (ℕ → Bool) → Forest → List InSpace
spaces_at on forest = spaced (names_among (forest_leaves on forest)) (spaces_of (forest_at on forest))
