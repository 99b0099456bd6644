-- What the places of tokens have to do with core programs and names: nothing. The law is the contract of a function of this crate.
use Rattle.std.specs.Prelude.{◌↔◌, List, map}
use Rattle.c_text.specs.Token.{PlainToken, SameSpelling}
use Rattle.c_tree.specs.Trees.{PlainTree}
use Rattle.core_meaning.specs.Program.{PlainProgram}
use Rattle.core_meaning.specs.Linking.{IsElaborated}
use Rattle.moved_programs.specs.Trees.{moved_tree}
use Rattle.program_occurrences.specs.Occurrences.{UnitNames, names_of_units}
use Rattle.program_occurrences.specs.Links.{AreBoundAlike}
use Rattle.moved_names.specs.Places.{AreSameButPlaces}

-- Units that are the same but for the places of their tokens have the same core program, if they have one, and their identifiers are bound and
-- linked to the same. Such are the units that come of a change of tokens that keeps their spellings, also where it puts two at one place that
-- stood apart.
pub record MovesDontName : Type 0 where
  pub moved : (f : PlainToken → PlainToken) → ((token : PlainToken) → SameSpelling token (f token)) → (trees : List PlainTree) → AreSameButPlaces trees (map (moved_tree f) trees)
  pub programs : (trees others : List PlainTree) → AreSameButPlaces trees others → (p : PlainProgram) → IsElaborated trees p ↔ IsElaborated others p
  pub bound_alike : (trees others : List PlainTree) → AreSameButPlaces trees others → AreBoundAlike (names_of_units trees) (names_of_units others)
  -- so they are bound and linked as those of other units, before or after, exactly where these are
  pub before :
      (trees others : List PlainTree) → AreSameButPlaces trees others → (units : List UnitNames)
      → AreBoundAlike (names_of_units trees) units ↔ AreBoundAlike (names_of_units others) units
  pub after :
      (trees others : List PlainTree) → AreSameButPlaces trees others → (units : List UnitNames)
      → AreBoundAlike units (names_of_units trees) ↔ AreBoundAlike units (names_of_units others)
