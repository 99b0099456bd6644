-- What ties that are told of units say of them; each is the contract of a function of this crate.
use Rattle.std.specs.Prelude.{◌↔◌, ℕ, Bool, List, Contains}
use Rattle.std.specs.List.{AllZip}
use Rattle.cond_formula.specs.Features.{has}
use Rattle.choice_trees.specs.declared.trees.Forest.{Forest}
use Rattle.project_file.specs.declared.projects.Unit.{Unit}
use Rattle.cond_tokens.specs.declared.tokens.CondStream.{CondStream}
use Rattle.cond_scopes.specs.Units.{present_trees}
use Rattle.project_check.specs.Parsed.{AreLeaves}
use Rattle.program_occurrences.specs.Occurrences.{UnitNames, CommonName, names_of_units}
use Rattle.program_occurrences.specs.Classes.{PlainFileToken}
use Rattle.tied_tokens.specs.Ties.{PlainTiedTokens}
use Rattle.tied_classes.specs.Told.{IsDeclaredBy, DeclaresName, Ties, Names}
use Rattle.changed_forests.specs.Numbered.{IsNumbered}
use Rattle.told_occurrences.specs.declared.told.ToldUnit.{ToldUnit}
use Rattle.told_occurrences.specs.Units.{AreTold}
use Rattle.told_ties.specs.Ties.{TiedPair, NamedToken, tied, named, tied_seen, named_seen, tied_in, named_in}

-- Just the tokens are tied of which the one has an occurrence that the other declares, and have just the names that they declare.
pub record TieUnits (units : List UnitNames) (ties : List TiedPair) (names : List NamedToken) : Type 0 where
  pub ties_are : (identifier declared_by : PlainFileToken) → Contains ties (tied identifier declared_by) ↔ IsDeclaredBy units identifier declared_by
  pub names_are : (token : PlainFileToken) (name : CommonName) → Contains names (named token name) ↔ DeclaresName units token name

-- Where occurrences are told by numbers, of trees whose tokens tell their numbers, the tokens of the streams are tied that belong together.
abbrev pub OccurrencesAreTied : Type 0
OccurrencesAreTied =
    (on : ℕ → Bool) (units : List Unit) (streams : List CondStream) (forests numbered : List Forest) (all : List ToldUnit)
    → AreLeaves on units streams forests → AllZip IsNumbered forests numbered → AreTold on units numbered (names_of_units (present_trees on units numbered)) all
    → TieUnits (names_of_units (present_trees on units forests)) (tied_in on streams all) (named_in on streams all)

-- What a configuration sees of ties and declared names are those that are true in it.
pub record TiesAreSeen : Type 0 where
  pub ties_are :
      (all : PlainTiedTokens) (c : List Bool) (identifier declared_by : PlainFileToken)
      → Ties all c identifier declared_by ↔ Contains (tied_seen (has c) all.ties) (tied identifier declared_by)
  pub names_are :
      (all : PlainTiedTokens) (c : List Bool) (token : PlainFileToken) (name : CommonName)
      → Names all c token name ↔ Contains (named_seen (has c) all.names) (named token name)
