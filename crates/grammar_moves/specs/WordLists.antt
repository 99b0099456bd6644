-- The lists of words as those of storage and those of types.
use Rattle.std.specs.Prelude.{◌≡◌, true, List, [], ◌∷◌, ◌++◌}
use Rattle.std.specs.List.{list_any}
use Rattle.c_tree.specs.declared.terminals.Terminal.{Terminal}
use Rattle.c_tree.specs.Grammar.{cast_types, types, storages}
use Rattle.c_tree.specs.Places as places
use Rattle.grammar_moves.specs.declared.words.Wording.{Wording}
use Rattle.grammar_moves.specs.declared.words.Wording.TheVariants as wording
use Rattle.grammar_moves.specs.declared.words.Words.{Words}
use Rattle.grammar_moves.specs.PlainPlaces.{plain_wording, plain_words}

abbrev pub storages_of : Wording → List (List Terminal)
storages_of wording.Cast = [] ∷ []
storages_of wording.Type = [] ∷ []
storages_of wording.File = storages

abbrev pub types_of : Wording → List (List Terminal)
types_of wording.Cast = cast_types
types_of wording.Type = types
types_of wording.File = types

-- the words with one more, with which some list of words begins
pub record Lengthens (w : Wording) (words : Words) (word : Terminal) (longer : Words) : Type 0 where
  pub words_are : plain_words longer ≡ plain_words words ++ word ∷ []
  pub go_on : list_any (places.goes_on (plain_words words ++ word ∷ [])) (places.wordings (plain_wording w)) ≡ true
