-- How selections are noted one behind the other.
use Rattle.std.specs.Prelude.{◌≡◌, ℕ, Bool, true, false, List, [], ◌∷◌, ◌++◌, Option, Some, None, IsTrue}
use Rattle.c_text.specs.Token.{PlainToken}
use Rattle.c_tree.specs.declared.kinds.Kind.{Kind}
use Rattle.c_tree.specs.declared.kinds.Kind.TheVariants as k
use Rattle.c_tree.specs.Trees.{PlainTree}
use Rattle.choice_trees.specs.Leaves.{Leaf}
use Rattle.conditional.specs.Judgements.{Checked, fine, refused, Shows}
use Rattle.conditional.specs.declared.outcomes.Outcomes.{Outcomes}
use Rattle.operand_rules.specs.declared.operands.Refused.{Refused}
use Rattle.operand_rules.specs.PlainOperandTypes.{reason}
use Rattle.expression_types.specs.Known.{Known}
use Rattle.selections.specs.Selections.{turns, selected_in}
use Rattle.cond_selections.specs.declared.entries.Structure.{Structure}
use Rattle.member_uses.specs.Uses.{Use, using}
use Rattle.cond_selections.specs.Selected.{structure_number, identifiers}

-- ---- structs

-- no struct is a refusal
abbrev pub or_refused : Option ℕ → Checked ℕ (Unit {0})
or_refused None = refused tt
or_refused (Some n) = fine n

-- this is the struct in which something selects, if it does
abbrev pub ShowsStructure : (ℕ → Bool) → Option ℕ → Outcomes Structure Refused → Type 0
ShowsStructure on owner all = Shows structure_number reason on true (or_refused owner) all

abbrev pub is_selection : Kind → Bool
is_selection k.Selection = true
is_selection kind = false

-- ---- the log

-- what an identifier adds
abbrev pub one_selection : PlainToken → Option ℕ → List Use
one_selection name None = []
one_selection name (Some structure) = record { token = name; structure = structure } ∷ []

-- Where b, the log goes on by what the identifiers among these leaves select, whatever stands behind; elsewhere it stays.
pub record Logs (b : Bool) (leaves : List Leaf → List Leaf) (told : List (Option ℕ) → List (Option ℕ)) (old new : List Use) : Type 0 where
  pub here : IsTrue b → (behind : List Leaf) (rest : List (Option ℕ))
      → new ++ using (identifiers behind) rest ≡ old ++ using (identifiers (leaves behind)) (told rest)
  pub elsewhere : b ≡ false → new ≡ old

-- a part, if there is one
abbrev pub turns_if_any : Option PlainTree → Bool
turns_if_any None = false
turns_if_any (Some tree) = turns tree

abbrev pub selected_if_any : Known → Option ℕ → Bool → Option PlainTree → List (Option ℕ) → List (Option ℕ)
selected_if_any known owner turned None behind = behind
selected_if_any known owner turned (Some tree) behind = selected_in known owner turned tree behind
