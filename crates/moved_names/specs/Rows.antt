-- A worked example, no part of the definitions: a unit that is refused by another kind where its tokens stand at one place.
use Rattle.std.specs.Prelude.{◌≡◌, ℕ, List, [], codes, Option, Some, None}
use Rattle.c_text.specs.Token.{PlainToken}
use Rattle.c_tree.specs.Trees.{PlainTree}
use Rattle.c_tree.specs.Machine.{read, of_trees}
use Rattle.core_meaning.specs.declared.refusals.TypeKind.{TypeKind}
use Rattle.core_meaning.specs.declared.refusals.TypeKind.TheVariants.{Undeclared, BadConstant}
use Rattle.core_meaning.specs.Checking.{Checked, refused}
use Rattle.core_meaning.specs.Linking.{Units, judged_program}
use Rattle.bindings.specs.Rows.{words_from, tokens_of}
use Rattle.program_occurrences.specs.Rows.{with_tree, placed_from}
use Rattle.moved_names.specs.Places.{AreSameButPlaces}

abbrev pub unit_of : List PlainToken → List PlainTree
unit_of tokens = with_tree (read of_trees tokens) []

abbrev pub kind_told : Checked Units → Option TypeKind
kind_told (refused kind token) = Some kind
kind_told other = None

-- one entry too many, of which the second operand isn't declared
abbrev pub one_too_many : List ℕ
one_too_many = codes "int a [ 1 ] = { 1 , 2 + x } ;"

abbrev pub at_one_place : List PlainTree
at_one_place = unit_of (tokens_of one_too_many)

abbrev pub apart : List PlainTree
apart = unit_of (placed_from 0 (words_from [] one_too_many))

-- The two are the same but for places. Both are refused, but where all tokens stand at one place the operand is the first of its entry there, so that
-- its own refusal counts.
pub record RefusalsTellPlaces : Type 0 where
  pub same : AreSameButPlaces at_one_place apart
  pub first : kind_told (judged_program at_one_place) ≡ Some Undeclared
  pub second : kind_told (judged_program apart) ≡ Some BadConstant
