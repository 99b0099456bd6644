-- LAWS, each the contract of a function of this crate.
use Rattle.std.specs.Prelude.{◌≡◌, List}
use Rattle.c_tree.specs.Trees.{PlainTree}
use Rattle.core_meaning.specs.Checking.{Binding, fine}
use Rattle.core_meaning.specs.Linking.{Units, judged_program}
use Rattle.bindings.specs.Laws.{AreWritten}
use Rattle.program_occurrences.specs.Occurrences.{UnitNames, names_of_units, OccursIn}
use Rattle.program_occurrences.specs.Classes.{PlainFileToken, file_token, Brings}

-- two tokens of files have occurrences in these units that are written alike
pub record AreNamedAlike (units : List UnitNames) (a b : PlainFileToken) : Type 0 where
  pub first : OccursIn units
  pub second : OccursIn units
  pub at_first : file_token first.occurrence ≡ a
  pub at_second : file_token second.occurrence ≡ b
  pub alike : first.occurrence.identifier.token.text ≡ second.occurrence.identifier.token.text

-- In a program that is judged well, what a token brings along is written as it is.
abbrev pub BroughtAreNamedAlike : Type 0
BroughtAreNamedAlike =
    (trees : List PlainTree) (linked : Units) (js : List Binding) (a b : PlainFileToken) → AreWritten trees → judged_program trees ≡ fine linked js
    → Brings (names_of_units trees) a b → AreNamedAlike (names_of_units trees) a b
