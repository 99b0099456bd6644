-- What declared names tell of links; the law is the contract of a function of this crate.
use Rattle.std.specs.Prelude.{◌↔◌, ℕ, Bool, List, IsTrue}
use Rattle.cond_formula.specs.Features.{has}
use Rattle.c_text.specs.declared.origin.FileToken.{FileToken}
use Rattle.program_occurrences.specs.Occurrences.{UnitNames, OccursIn, CommonName}
use Rattle.program_occurrences.specs.Classes.{PlainFileToken}
use Rattle.tied_tokens.specs.Ties.{PlainTiedTokens}
use Rattle.tied_classes.specs.Told.{DeclaresName, Names}
use Rattle.told_ties.specs.Ties.{named_seen}
use Rattle.changed_forests.specs.Renamed.{is_name, is_of_class}
use Rattle.linked_otherwise.specs.Otherwise.{IsLinkedOtherwise}
use Rattle.class_captures.specs.Links.{LinksOtherwise}

-- each identifier of the units is a name
abbrev pub HaveNames : List UnitNames → Type 0
HaveNames units = (o : OccursIn units) → IsTrue (is_name o.occurrence.identifier.token.kind)

-- Where declared names tell the units of a configuration, they tell whether the renaming of a class links a declaration of them otherwise.
abbrev pub LinksAreToldByNames : Type 0
LinksAreToldByNames =
    (class : List FileToken) (old new : List ℕ) (all : PlainTiedTokens) (c : List Bool) (units : List UnitNames) → HaveNames units
    → ((token : PlainFileToken) (name : CommonName) → Names all c token name ↔ DeclaresName units token name)
    → LinksOtherwise class old new (named_seen (has c) all.names) ↔ IsLinkedOtherwise (is_of_class class new) old new units
