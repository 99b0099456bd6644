-- Where an initialiser is refused, entry by entry (ISO/IEC 9899:2011, 6.7.9): an expression as it is asked for, a list in braces by its entries, each
-- of which is for one part of what is initialised.
use Rattle.std.specs.Prelude.{ℕ, ◌-◌, Bool, true, false, ◌||◌, List, [], ◌∷◌, replicate, nat_le, if◌then◌else◌}
use Rattle.c_types.specs.Types.{PlainType, array_of, structure}
use Rattle.c_tree.specs.declared.kinds.Kind.TheVariants as k
use Rattle.c_tree.specs.Trees.{PlainTree, PlainTrees, leaf, node, none, more}
use Rattle.core_meaning.specs.Constancy.{is_character_type}
use Rattle.conditional.specs.Judgements.{Checked, fine, refused, bind}
use Rattle.choice_trees.specs.ChoiceTrees.{semicolon}
use Rattle.operand_types.specs.OperandTypes.{OperandType}
use Rattle.operand_types.specs.Operators.{fitted_type}
use Rattle.operand_rules.specs.PlainOperandTypes.{accepted}
use Rattle.expression_types.specs.Known.{Known}
use Rattle.expression_types.specs.Reading.{is_operand, read_expression}
use Rattle.type_tables.specs.Tables.{Tables}
use Rattle.type_tables.specs.Follows.{types_of}

abbrev pub Test : Type 0
Test = Checked (Unit {0}) (Unit {0})

abbrev pub is_refusal : Test → Bool
is_refusal (fine x) = false
is_refusal (refused why) = true

-- texts are arrays with a zero behind them, which needs no room
abbrev pub has_room : ℕ → PlainType → Bool
has_room count (array_of element size) = nat_le (size - 1) count
has_room count other = false

abbrev pub room_for : ℕ → OperandType → Test
room_for count o = accepted (has_room count o.ty)

-- for which types an entry is refused
abbrev pub RefusedFor : Type 0
RefusedFor = PlainType → Bool

-- what the entries of a list are for, where the members of structs, by their numbers, have these types
abbrev pub parts_of : (ℕ → List PlainType) → PlainType → List PlainType
parts_of members (array_of element count) = replicate count element
parts_of members (structure number) = members number
parts_of members ty = ty ∷ []

-- Each entry is for one part, in their order. Refused is one that is refused for its part, and one for which there is none.
abbrev pub in_pairs : List RefusedFor → List PlainType → Bool
in_pairs [] parts = false
in_pairs (entry ∷ entries) [] = true
in_pairs (entry ∷ entries) (part ∷ parts) = entry part || in_pairs entries parts

abbrev pub some_refused : List RefusedFor → PlainType → Bool
some_refused [] ty = false
some_refused (entry ∷ entries) ty = entry ty || some_refused entries ty

-- a comma or a brace is no entry
abbrev pub is_entry : PlainTree → Bool
is_entry (leaf token) = is_operand token
is_entry (node kind parts) = true

-- What is asked of expressions.
pub record Asked : Type 0 where
  -- for which types an expression is refused, but for texts that an array may be made of
  pub unfit : PlainTree → RefusedFor
  -- whether an array of so many characters has no room for texts
  pub without_room : PlainTree → ℕ → Bool

-- by their types alone
module _ (known : Known) where
  abbrev pub is_unfit : PlainTree → RefusedFor
  is_unfit tree ty = is_refusal (bind (read_expression known tree).outcome (fitted_type semicolon ty))

  abbrev pub without_room : PlainTree → ℕ → Bool
  without_room tree count = is_refusal (bind (read_expression known tree).outcome (room_for count))

  abbrev pub by_types : Asked
  by_types = record { unfit = is_unfit; without_room = without_room }

module _ (asked : Asked) where
  -- an expression that is no text is for no array
  abbrev pub alone : PlainTree → RefusedFor
  alone tree (array_of element count) = true
  alone tree ty = asked.unfit tree ty

  abbrev pub text_in_array : PlainTree → PlainType → ℕ → Bool
  text_in_array tree element count = if is_character_type element then asked.without_room tree count else true

  abbrev pub as_text : PlainTree → RefusedFor
  as_text tree (array_of element count) = text_in_array tree element count
  as_text tree ty = asked.unfit tree ty

  module _ (members : ℕ → List PlainType) where
    abbrev mutual
      pub refuses : PlainTree → RefusedFor
      refuses (node k.Braces parts) ty = some_refused (entries_in parts) ty
      refuses (node k.Initialisers parts) ty = in_pairs (entries_in parts) (parts_of members ty)
      refuses (node k.Texts parts) ty = as_text (node k.Texts parts) ty
      refuses (leaf token) ty = alone (leaf token) ty
      refuses (node kind parts) ty = alone (node kind parts) ty

      pub entries_in : PlainTrees → List RefusedFor
      entries_in none = []
      entries_in (more (leaf token) rest) = if is_operand token then alone (leaf token) ∷ entries_in rest else entries_in rest
      entries_in (more (node kind parts) rest) = refuses (node kind parts) ∷ entries_in rest

    -- a part of a list, if it is an entry
    abbrev pub one_entry : PlainTree → List RefusedFor
    one_entry tree = if is_entry tree then refuses tree ∷ [] else []

-- the types of the members of a struct, none where it isn't complete
abbrev pub members_in : Tables → ℕ → List PlainType
members_in t number = if t.complete number then types_of (t.members number) else []
