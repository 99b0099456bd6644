-- The selections of an expression of a forest where `on` says which features are on.
use Rattle.std.specs.Prelude.{ℕ, List, [], ◌∷◌, if◌then◌else◌}
use Rattle.c_text.specs.Token.{PlainToken, plain_token}
use Rattle.c_tree.specs.Trees.{PlainTree}
use Rattle.choice_trees.specs.Leaves.{Leaf}
use Rattle.bindings.specs.Bindings.{is_name}
use Rattle.expression_types.specs.Known.{Known}
use Rattle.selections.specs.Selections.{structures_selected}
use Rattle.member_uses.specs.Uses.{Use, names_in, using}
use Rattle.cond_selections.specs.declared.entries.Structure.{Structure}
use Rattle.cond_selections.specs.declared.entries.Selection.{Selection}

abbrev pub structure_number : Structure → ℕ
structure_number s = s.number

abbrev pub plain_selection : Selection → Use
plain_selection s = record { token = plain_token s.name; structure = s.structure }

-- the identifiers among leaves
abbrev pub identifiers : List Leaf → List PlainToken
identifiers [] = []
identifiers (leaf ∷ rest) = if is_name leaf.text then leaf.text ∷ identifiers rest else identifiers rest

-- the selections of an expression, in the order of the text
abbrev pub selections_in : Known → PlainTree → List Use
selections_in known tree = using (names_in tree) (structures_selected known tree)
