-- What the sites of tokens have to do with the names of units: nothing; each is the contract of a function of this crate.
use Rattle.std.specs.Prelude.{◌≡◌, ◌↔◌, List, map}
use Rattle.c_tree.specs.Trees.{PlainTree}
use Rattle.moved_programs.specs.Trees.{moved_tree}
use Rattle.program_occurrences.specs.Occurrences.{UnitNames, CommonName, names_of_units}
use Rattle.program_occurrences.specs.Classes.{PlainFileToken}
use Rattle.changed_forests.specs.Numbered.{unsited, AreSameButSites}
use Rattle.tied_classes.specs.Told.{IsDeclaredBy, DeclaresName}
use Rattle.sited_names.specs.Unsited.{unsited_names}

-- Without their sites, the tokens of units are the same identifiers, which stand for what they stood for.
abbrev pub SitesDontName : Type 0
SitesDontName = (trees : List PlainTree) → names_of_units (map (moved_tree unsited) trees) ≡ map unsited_names (names_of_units trees)

-- Copies of the same tokens are declared by copies of the same ones in these units as in those, and declare the same names.
pub record AreTiedAlike (units others : List UnitNames) : Type 0 where
  pub declared : (identifier declared_by : PlainFileToken) → IsDeclaredBy units identifier declared_by ↔ IsDeclaredBy others identifier declared_by
  pub named : (token : PlainFileToken) (name : CommonName) → DeclaresName units token name ↔ DeclaresName others token name

-- So are they in units that are the same but for the sites of their tokens.
abbrev pub SitesDontTie : Type 0
SitesDontTie = (trees others : List PlainTree) → AreSameButSites trees others → AreTiedAlike (names_of_units trees) (names_of_units others)
