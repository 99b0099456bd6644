-- What holds of the numbers of entities; each is the contract of a function of this crate.
use Rattle.std.specs.Prelude.{◌≡◌, ℕ, List, [], ◌++◌, ◌∷◌, length, IsTrue}
use Rattle.c_text.specs.Token.{PlainToken}
use Rattle.c_types.specs.Types.{PlainType}
use Rattle.c_tree.specs.declared.terminals.Terminal.TheVariants.{OpenParenthesis}
use Rattle.c_tree.specs.Trees.{PlainTree, PlainTrees}
use Rattle.c_tree.specs.Grammar.{is_unit}
use Rattle.core_meaning.specs.Checking.{Binding, fine}
use Rattle.core_meaning.specs.Declarations.{behind_word}
use Rattle.core_meaning.specs.Program.{PlainItems}
use Rattle.core_meaning.specs.Statements.{Around, JudgedItems, judged_items}
use Rattle.core_meaning.specs.UnitNames.{UnitState, Storage, function_body, defined_function}
use Rattle.bindings.specs.Judged.{Identified}
use Rattle.renamed_programs.specs.Entities.{Correspondence, AreBoundAlike}
use Rattle.entity_numbers.specs.Numbered.{Counts, AreNumbered, HaveSameFirsts, AreNamedSo}
use Rattle.entity_numbers.specs.Firsts.{AreOf, AreInOrder, HaveFirstsAlike}
use Rattle.entity_numbers.specs.Kinds.{AreKindsAlike}
use Rattle.entity_numbers.specs.Bound.{AreOfUnit, AreUsedBehind}
use Rattle.entity_numbers.specs.Slots.{AreSlotsInTurn, AreVisibleTaken, HasNamedParameters, HasNamedFunctions}

-- Two lists of bindings that are numbered from the same counts correspond entity by entity, where each two identifiers at one place are bound
-- to what is first bound at one place, and stand for things of one kind if no expression uses them; what one uses is bound before.
abbrev pub NumberedAreBoundAlike : Type 0
NumberedAreBoundAlike =
    (named : Correspondence) (counts : Counts) (bindings others : List Binding) → AreNumbered counts [] bindings → AreNumbered counts [] others
    → HaveSameFirsts [] [] bindings others → AreKindsAlike [] bindings others → AreOfUnit bindings → AreUsedBehind [] bindings
    → AreNamedSo named bindings others → AreBoundAlike named bindings others

-- So do the bindings of two lists of identifiers that are in the order of the text, with the same numbers, and whose first ones have the same
-- numbers.
abbrev pub FirstsAreBoundAlike : Type 0
FirstsAreBoundAlike =
    (named : Correspondence) (counts : Counts) (identified others : List Identified) (bindings behind : List Binding) → AreOf identified bindings → AreOf others behind
    → AreInOrder 0 identified → HaveFirstsAlike identified others → AreNumbered counts [] bindings → AreNumbered counts [] behind
    → AreKindsAlike [] bindings behind → AreOfUnit bindings → AreUsedBehind [] bindings → AreNamedSo named bindings behind → AreBoundAlike named bindings behind

-- The items of a block take slots in the order of the text: each identifier in them is bound to a slot that is taken or to the next, and behind
-- them all are taken that they have.
abbrev pub BlocksTakeSlotsInTurn : Type 0
BlocksTakeSlotsInTurn =
    (around : Around) (slots : List PlainType) (items : PlainTrees) (judged : JudgedItems) (bindings : List Binding) → AreVisibleTaken (length slots) around.scope
    → judged_items around slots items ≡ fine judged bindings → AreSlotsInTurn (length slots) bindings (length judged.slots)

-- A function takes slots in the order of its text, from the first of its parameters on, and has as many as it takes.
pub record TakesSlotsInTurn (before behind : UnitState) (name : List ℕ) (bindings : List Binding) : Type 0 where
  pub slots : List PlainType
  pub items : PlainItems
  pub defined : behind.defined ≡ before.defined ++ record { name = name; body = function_body slots items } ∷ []
  pub in_turn : AreSlotsInTurn 0 bindings (length slots)

abbrev pub FunctionsTakeSlotsInTurn : Type 0
FunctionsTakeSlotsInTurn =
    (unit behind : UnitState) (storage : Storage) (ty : PlainType) (parts : PlainTrees) (name : PlainToken) (body : PlainTree) (bindings : List Binding)
    → AreVisibleTaken 0 unit.scope → HasNamedParameters (behind_word OpenParenthesis parts) → defined_function unit storage ty parts name body ≡ fine behind bindings
    → TakesSlotsInTurn unit behind name.text bindings

-- Each function that a unit of the grammar defines names its parameters.
abbrev pub UnitsNameParameters : Type 0
UnitsNameParameters = (tree : PlainTree) → IsTrue (is_unit tree) → HasNamedFunctions tree
