-- Which tokens of files mean one thing in programs: what a token brings along (ISO/IEC 9899:2011, 6.2.1, 6.2.2, 6.2.7).
use Rattle.std.specs.Prelude.{◌≡◌, ℕ, List, Some, IsTrue}
use Rattle.text_edits.specs.Span.{PlainSpan}
use Rattle.c_text.specs.Token.{PlainToken}
use Rattle.program_occurrences.specs.Occurrences.{UnitNames, Occurrence, declares_itself, OccursIn, CommonName, common_name}

-- a token of a file, by the file's number and its span there
pub record PlainFileToken : Type 0 where
  pub file : ℕ
  pub span : PlainSpan

-- the token of a file of which this one is a copy
abbrev pub copied_by : PlainToken → PlainFileToken
copied_by token = record { file = token.origin.file; span = token.origin.span }

-- the tokens of files of which an occurrence's identifier, and what declares it, are copies
abbrev pub file_token : Occurrence → PlainFileToken
file_token o = copied_by o.identifier.token

abbrev pub declaring_token : Occurrence → PlainFileToken
declaring_token o = copied_by o.declared_by.token

-- One token of a file brings another along, in one product with these units.
pub data Brings (units : List UnitNames) : PlainFileToken → PlainFileToken → Type 0 where
  -- a token with an occurrence brings the one that declares it,
  by_declaration : (o : OccursIn units) → Brings units (file_token o.occurrence) (declaring_token o.occurrence)
  -- and each with an occurrence of the same declaration in that unit
  by_occurrence :
      (o p : OccursIn units) → o.place ≡ p.place → o.occurrence.declared_by.number ≡ p.occurrence.declared_by.number
      → Brings units (file_token o.occurrence) (file_token p.occurrence)
  -- one that declares a name that units have in common brings those that declare it in the other units
  by_name :
      (o p : OccursIn units) (name : CommonName) → IsTrue (declares_itself o.occurrence) → IsTrue (declares_itself p.occurrence)
      → common_name o.unit o.occurrence.identifier ≡ Some name → common_name p.unit p.occurrence.identifier ≡ Some name
      → Brings units (file_token o.occurrence) (file_token p.occurrence)

-- The least set of tokens that holds a place, and with each token all that it brings along in one of these products.
pub data IsBrought (AreUnits : List UnitNames → Type 0) (place : PlainFileToken) : PlainFileToken → Type 0 where
  itself : IsBrought AreUnits place place
  brought :
      {member other : PlainFileToken} (units : List UnitNames) → AreUnits units → IsBrought AreUnits place member → Brings units member other
      → IsBrought AreUnits place other
