-- In which structs expressions select members, by the kinds of nodes and the order of their parts (ISO/IEC 9899:2011, 6.5.2.3).
use Rattle.std.specs.Prelude.{ℕ, Bool, false, ◌||◌, codes, List, [], ◌∷◌, Option, Some, None, if◌then◌else◌}
use Rattle.std.specs.Str.{bytes_eq}
use Rattle.c_text.specs.Token.{PlainToken}
use Rattle.c_types.specs.Types.{PlainType, pointer_to, structure}
use Rattle.c_tree.specs.declared.kinds.Kind.{Kind}
use Rattle.c_tree.specs.declared.kinds.Kind.TheVariants as k
use Rattle.c_tree.specs.declared.terminals.Terminal.TheVariants as t
use Rattle.c_tree.specs.Terminals.{terminal, same}
use Rattle.c_tree.specs.Trees.{PlainTree, PlainTrees, leaf, node, none, more}
use Rattle.choice_trees.specs.ChoiceTrees.{semicolon}
use Rattle.conditional.specs.Judgements.{fine, refused, bind}
use Rattle.bindings.specs.Bindings.{is_name}
use Rattle.operand_types.specs.Operators.{loaded_type}
use Rattle.expression_types.specs.Known.{Known}
use Rattle.expression_types.specs.Reading.{Outcome, read_expression}

-- ---- the struct in which a selection selects, by what its operand is

abbrev pub structure_of_type : PlainType → Option ℕ
structure_of_type (structure n) = Some n
structure_of_type other = None

abbrev pub structure_pointed_at : PlainType → Option ℕ
structure_pointed_at (pointer_to ty) = structure_of_type ty
structure_pointed_at other = None

abbrev pub structure_by : (PlainType → Option ℕ) → Outcome → Option ℕ
structure_by which (fine o) = which o.ty
structure_by which (refused why) = None

-- behind `.` in the struct that the operand is, behind `->` in the one that it points at
abbrev pub structure_behind : PlainToken → Outcome → Option ℕ
structure_behind select operand =
    if bytes_eq select.text (codes ".") then structure_by structure_of_type operand
    else structure_by structure_pointed_at (bind operand (loaded_type semicolon))

abbrev pub structure_of_selection : Known → PlainTrees → Option ℕ
structure_of_selection known (more operand (more (leaf select) rest)) = structure_behind select (read_expression known operand).outcome
structure_of_selection known parts = None

abbrev pub structure_of_node : Known → Kind → PlainTrees → Option ℕ
structure_of_node known k.Selection parts = structure_of_selection known parts
structure_of_node known kind parts = None

-- ---- identifiers in the order of the text, each with the struct in which it selects a member, if it does

-- what stands behind the `.` or `->` of a node names a member
abbrev pub turns : PlainTree → Bool
turns (leaf token) = same t.Select (terminal token)
turns (node kind parts) = false

abbrev pub structure_named : Option ℕ → Bool → Option ℕ
structure_named None turned = None
structure_named (Some n) turned = if turned then Some n else None

abbrev pub with_identifier : PlainToken → Option ℕ → List (Option ℕ) → List (Option ℕ)
with_identifier token selected behind = if is_name token then selected ∷ behind else behind

module _ (known : Known) where
  abbrev mutual
    -- those of a part of a node that selects in this struct, and those behind it
    pub selected_in : Option ℕ → Bool → PlainTree → List (Option ℕ) → List (Option ℕ)
    selected_in owner turned (leaf token) behind = with_identifier token (structure_named owner turned) behind
    selected_in owner turned (node kind parts) behind = selected_in_parts (structure_of_node known kind parts) false parts behind

    pub selected_in_parts : Option ℕ → Bool → PlainTrees → List (Option ℕ) → List (Option ℕ)
    selected_in_parts owner turned none behind = behind
    selected_in_parts owner turned (more tree rest) behind =
        selected_in owner turned tree (selected_in_parts owner (turned || turns tree) rest behind)

  -- the struct in which each identifier of an expression selects a member
  abbrev pub structures_selected : PlainTree → List (Option ℕ)
  structures_selected tree = selected_in None false tree []
